-- What an error leaves of the file: laws of stages that follow one another.
use Rattle.std.proofs.Common.{◌≡◌, ℕ, ◌+◌, ◌≤◌, List, ◌++◌, length, drop, Option, None, Some, IfSome, ap, sym, ◌∙◌, arith, append-nil}
use Rattle.std.specs.Prelude.{Ok, Err, is_ok}
use Rattle.std.proofs.lemmas.Bool.{false≢true}
use Rattle.std.specs.Io.KnownBytes.{prepend_known, IsAtEnd}
use Rattle.std.proofs.Math.ListN.{drop_of_length-le}
use Rattle.std.proofs.Math.Seq.{drop-append-add, drop-append_seam}
use Rattle.series_file.specs.Reading.{Leaves}
use Rattle.series_file.specs.declared.error.FileError.{FileError}
use Rattle.series_file.specs.declared.error.FileError.TheVariants.{ReadFault, NoMemory}
use Rattle.series_file.proofs.Outcomes.{told}

-- all that lies behind the reach is left
abbrev pub LeavesBehind : (List ℕ → ℕ) → Option (List ℕ) → Option (List ℕ) → Type 0
LeavesBehind far before now = IfSome before (λ bytes. now ≡ Some (drop (far bytes) bytes))

-- then it is what any error may leave
pub Leaves-behind : (far : List ℕ → ℕ) (before now : Option (List ℕ)) (e : FileError)
    → LeavesBehind far before now → Leaves far before now e
Leaves-behind far before now ReadFault left = tt
Leaves-behind far None now NoMemory left = tt
Leaves-behind far (Some bytes) now NoMemory left = (far bytes, omega arith, left)
Leaves-behind far before now e left = left

-- at the end of the file nothing is left, and that lies behind any reach which is not within the file
pub behind-end : (far : List ℕ → ℕ) (bytes : List ℕ) (before now : Option (List ℕ))
    → before ≡ prepend_known bytes now → IsAtEnd now → length bytes ≤ far bytes
    → LeavesBehind far before now
behind-end far bytes before now taken ended within =
    told (λ bs. now ≡ Some (drop (far bs) bs)) bytes before now taken (at now ended)
  where
    at : (n : Option (List ℕ)) → IsAtEnd n
        → IfSome n (λ rest. n ≡ Some (drop (far (bytes ++ rest)) (bytes ++ rest)))
    at None h = tt
    at (Some rest) h =
        ap (λ xs. Some xs) (h ∙ sym (drop_of_length-le bytes within))
        ∙ ap (λ bs. Some (drop (far bs) bs)) (sym (append-nil bytes) ∙ ap (λ xs. bytes ++ xs) (sym h))

-- where as many bytes were taken as the reach says, the others lie behind it
pub behind-taken : (far : List ℕ → ℕ) (bytes : List ℕ) (before now : Option (List ℕ))
    → before ≡ prepend_known bytes now → ((rest : List ℕ) → far (bytes ++ rest) ≡ length bytes)
    → LeavesBehind far before now
behind-taken far bytes before now taken same =
    told (λ bs. now ≡ Some (drop (far bs) bs)) bytes before now taken (at now)
  where
    at : (n : Option (List ℕ)) → IfSome n (λ rest. n ≡ Some (drop (far (bytes ++ rest)) (bytes ++ rest)))
    at None = tt
    at (Some rest) =
        ap (λ xs. Some xs) (sym (drop-append-add bytes rest 0))
        ∙ ap (λ m. Some (drop m (bytes ++ rest))) (omega (arith, same rest))

-- What a later stage leaves, behind bytes that were taken before it, the whole leaves.
pub Leaves-then : (far inner : List ℕ → ℕ) (bytes : List ℕ) (before between now : Option (List ℕ))
    (e : FileError) → before ≡ prepend_known bytes between
    → ((rest : List ℕ) → far (bytes ++ rest) ≡ length bytes + inner rest)
    → Leaves inner between now e → Leaves far before now e
Leaves-then far inner bytes before between now ReadFault taken same left = tt
Leaves-then far inner bytes before between now NoMemory taken same left =
    told (λ bs. (k : ℕ) × (k ≤ far bs) × (now ≡ Some (drop k bs))) bytes before between taken (at between left)
  where
    at : (b : Option (List ℕ)) → Leaves inner b now NoMemory
        → IfSome b (λ rest. (k : ℕ) × (k ≤ far (bytes ++ rest)) × (now ≡ Some (drop k (bytes ++ rest))))
    at None h = tt
    at (Some rest) h = (
      length bytes + h.0,
      omega (arith, same rest, h.1),
      h.2 ∙ ap (λ xs. Some xs) (sym (drop-append-add bytes rest h.0)),
    )
Leaves-then far inner bytes before between now e taken same left =
    told (λ bs. now ≡ Some (drop (far bs) bs)) bytes before between taken (at between left)
  where
    at : (b : Option (List ℕ)) → LeavesBehind inner b now
        → IfSome b (λ rest. now ≡ Some (drop (far (bytes ++ rest)) (bytes ++ rest)))
    at None h = tt
    at (Some rest) h =
        h ∙ ap (λ xs. Some xs) (sym (drop-append-add bytes rest (inner rest)))
        ∙ ap (λ m. Some (drop m (bytes ++ rest))) (sym (same rest))

-- where memory ran out after at most n bytes
pub Leaves-memory : (n : ℕ) (bytes : List ℕ) (before now : Option (List ℕ)) → before ≡ prepend_known bytes now
    → length bytes ≤ n → Leaves (λ _. n) before now NoMemory
Leaves-memory n bytes before now taken less =
    told (λ bs. (k : ℕ) × (k ≤ n) × (now ≡ Some (drop k bs))) bytes before now taken (at now)
  where
    at : (b : Option (List ℕ)) → IfSome b (λ rest. (k : ℕ) × (k ≤ n) × (b ≡ Some (drop k (bytes ++ rest))))
    at None = tt
    at (Some rest) = (
      length bytes,
      less,
      ap (λ xs. Some xs) (sym (drop-append_seam bytes rest)),
    )

-- a success is no failure
pub ok-not-err : {T E : Type 0} (x : T) (e : E) → Ok x ≡ Err e → ⊥
ok-not-err x e h = false≢true (sym (ap is_ok h))
