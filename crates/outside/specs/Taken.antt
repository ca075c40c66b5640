-- Laws of reading in pieces: what was left is what came, and then what is left now.
use Rattle.std.proofs.Common.{◌≡◌, ℕ, ◌+◌, ◌<◌, ◌≤◌, List, [], ◌++◌, length, drop, Option, Some, None, IfSome, ap, sym, ◌∙◌, refl, subst, arith, append_assoc, length-append}
use Rattle.std.proofs.Math.Seq.{drop-append_seam}
use Rattle.std.specs.Io.KnownBytes.{prepend_known}
use Rattle.outside.specs.Files.{TakesAtMost}

-- taking twice takes both
pub prepend_known-prepend : (xs ys : List ℕ) (known : Option (List ℕ))
    → prepend_known xs (prepend_known ys known) ≡ prepend_known (xs ++ ys) known
prepend_known-prepend xs ys None = refl
prepend_known-prepend xs ys (Some bytes) = ap (λ zs. Some zs) (sym (append_assoc xs ys bytes))

-- before a read nothing was taken
pub prepend_known-none : (known : Option (List ℕ)) → known ≡ prepend_known [] known
prepend_known-none None = refl
prepend_known-none (Some bytes) = refl

-- taking twice, from the first state to the last
pub taken_then : (xs ys : List ℕ) (before now next : Option (List ℕ))
    → before ≡ prepend_known xs now → now ≡ prepend_known ys next
    → before ≡ prepend_known (xs ++ ys) next
taken_then xs ys before now next first second =
    first ∙ ap (prepend_known xs) second ∙ prepend_known-prepend xs ys next

-- where one byte more than the limit was taken, more than the limit was left
pub longer-prepend : (xs : List ℕ) (limit : ℕ) (before now : Option (List ℕ))
    → length xs ≡ limit + 1 → before ≡ prepend_known xs now
    → IfSome before (λ rest. (limit < length rest) × (now ≡ Some (drop (limit + 1) rest)))
longer-prepend xs limit before now size taken =
    let P : Option (List ℕ)
    → Type 0 = λ known. IfSome known (λ rest. (limit < length rest) × (now ≡ Some (drop (limit + 1) rest))) in
    subst P (sym taken) (at_rest xs limit now size)
  where
    at_rest : (xs : List ℕ) (limit : ℕ) (now : Option (List ℕ)) → length xs ≡ limit + 1
        → IfSome (prepend_known xs now) (λ rest. (limit < length rest) × (now ≡ Some (drop (limit + 1) rest)))
    at_rest xs limit None size = tt
    at_rest xs limit (Some ys) size = (
      omega (arith, length-append xs ys),
      ap (λ zs. Some zs) (sym (ap (λ k. drop k (xs ++ ys)) (sym size) ∙ drop-append_seam xs ys)),
    )

-- at most n bytes were taken
pub TakesAtMost-prepend : (xs : List ℕ) (n : ℕ) (before now : Option (List ℕ)) → length xs ≤ n
    → before ≡ prepend_known xs now
    → TakesAtMost n before now
TakesAtMost-prepend xs n before now most taken =
    let P : Option (List ℕ) → Type 0 = λ known. TakesAtMost n known now in
    subst P (sym taken) (at_rest xs n now most)
  where
    at_rest : (xs : List ℕ) (n : ℕ) (now : Option (List ℕ)) → length xs ≤ n
        → TakesAtMost n (prepend_known xs now) now
    at_rest xs n None most = tt
    at_rest xs n (Some ys) most = (length xs, most, ap (λ zs. Some zs) (sym (drop-append_seam xs ys)))
