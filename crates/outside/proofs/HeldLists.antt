-- Lists of held files: what is found by name, at a place, and after a file was put.
use Rattle.std.proofs.Common.{◌≡◌, ℕ, Bool, true, false, suc, zero, cond, ◌+◌, ◌-◌, ◌<◌, ◌≤◌, ◌⊎◌, inl, inr, List, [], ◌∷◌, ◌++◌, length, take, drop, Option, Some, None, ap, sym, ◌∙◌, refl, arith, get_or, if◌then◌else◌, subst, nat_lt}
use Rattle.std.proofs.Math.ListN.{set}
use Rattle.std.specs.List.{find, position, position_or_len, slice_get}
use Rattle.std.specs.Option.{option_map, option_map_or, option_and_then, IfSome, IfNone}
use Rattle.std.specs.String.{string_bytes}
use Rattle.std.specs.Str.{bytes_eq}
use Rattle.std.proofs.lemmas.Bool.Decides.{nat_tests}
use Rattle.std.proofs.lemmas.List.Folds.{find_at, find-set}
use Rattle.std.proofs.lemmas.List.Quantifiers.{position-Some}
use Rattle.std.proofs.lemmas.Option.{slice_get_past, slice_get_cases, slice_get-get_or}
use Rattle.std.proofs.lemmas.Slice.Eq.{bytes_eq-Decides}
use Rattle.outside.specs.declared.held_files.HeldFile.{HeldFile}
use Rattle.std.proofs.lemmas.List.{length-take-le, take_at, take-append-drop, drop-drop}
use Rattle.outside.proofs.Progress.{take-rest}
use Rattle.outside.specs.declared.held_files.OpenFile.{OpenFile}
use Rattle.outside.specs.HeldFiles.{open_name, has_name, held_under, name_at, bytes_at, IsPlaceOf}

-- what is found stands at the place that is found
pub find-position : {X : Type 0} (p : X → Bool) (xs : List X)
    → find p xs ≡ option_and_then (slice_get xs) (position p xs)
find-position p xs = find_at p xs ∙ by_place (nat_lt (position_or_len p xs) (length xs)) refl
  where
    by_place : (b : Bool) → nat_lt (position_or_len p xs) (length xs) ≡ b
        → slice_get xs (position_or_len p xs)
        ≡ option_and_then (slice_get xs) (cond b (Some (position_or_len p xs)) None)
    by_place true e = refl
    by_place false e = slice_get_past xs (position_or_len p xs) (grind (arith, nat_tests))

-- a write of an element that doesn't pass, over one that didn't, changes nothing of what is found
pub find-set_other : {X : Type 0} (p : X → Bool) (xs : List X) (i : ℕ) (y d : X) → p y ≡ false
    → p (get_or xs i d) ≡ false
    → find p (set xs i y) ≡ find p xs
find-set_other p [] i y d new old = refl
find-set_other p (x ∷ xs) zero y d new old =
    ap (λ b. cond b (Some y) (find p xs)) new ∙ sym (ap (λ b. cond b (Some x) (find p xs)) old)
find-set_other p (x ∷ xs) (suc i) y d new old = ap (cond (p x) (Some x)) (find-set_other p xs i y d new old)

-- an element behind that doesn't pass changes nothing of what is found
pub find-push_other : {X : Type 0} (p : X → Bool) (xs : List X) (y : X) → p y ≡ false
    → find p (xs ++ y ∷ []) ≡ find p xs
find-push_other p [] y new = ap (λ b. cond b (Some y) None) new
find-push_other p (x ∷ xs) y new = ap (cond (p x) (Some x)) (find-push_other p xs y new)

-- where nothing passes, an element behind that passes is found
pub find-push_same : {X : Type 0} (p : X → Bool) (xs : List X) (y : X) → p y ≡ true
    → find p xs ≡ None → find p (xs ++ y ∷ []) ≡ Some y
find-push_same p [] y new none = ap (λ b. cond b (Some y) None) new
find-push_same p (x ∷ xs) y new none = by_first (p x) none (find-push_same p xs y new)
  where
    by_first : (b : Bool) → cond b (Some x) (find p xs) ≡ None
        → (find p xs ≡ None → find p (xs ++ y ∷ []) ≡ Some y)
        → cond b (Some x) (find p (xs ++ y ∷ [])) ≡ Some y
    by_first true none more = cc
    by_first false none more = more none

-- a file of the same name in a file's place changes no name
pub name_at-set : (files : List HeldFile) (i : ℕ) (file d : HeldFile)
    → string_bytes file.name ≡ string_bytes (get_or files i d).name
    → (place : ℕ) → name_at (set files i file) place ≡ name_at files place
name_at-set [] i file d same place = refl
name_at-set (f ∷ files) zero file d same zero = ap (λ name. Some name) same
name_at-set (f ∷ files) zero file d same (suc place) = refl
name_at-set (f ∷ files) (suc i) file d same zero = refl
name_at-set (f ∷ files) (suc i) file d same (suc place) = name_at-set files i file d same place

-- a file behind changes no name before it
pub name_at-push : (files : List HeldFile) (file : HeldFile) (place : ℕ) → place < length files
    → name_at (files ++ file ∷ []) place ≡ name_at files place
name_at-push [] file place within = absurd (omega arith)
name_at-push (f ∷ files) file zero within = refl
name_at-push (f ∷ files) file (suc place) within = name_at-push files file place (omega arith)

-- the place that is found is that of the first element that passes
pub position_is : {X : Type 0} (p : X → Bool) (xs : List X) (i : ℕ) → position p xs ≡ Some i
    → i ≡ position_or_len p xs
position_is p xs i found = by_place (nat_lt (position_or_len p xs) (length xs)) found
  where
    by_place : (b : Bool) → cond b (Some (position_or_len p xs)) None ≡ Some i
        → i ≡ position_or_len p xs
    by_place true e = cc
    by_place false e = cc

-- the place that is found is in the list
pub position-within : {X : Type 0} (p : X → Bool) (xs : List X) (i : ℕ) → position p xs ≡ Some i
    → i < length xs
position-within p xs i found = by_place (nat_lt (position_or_len p xs) (length xs)) refl found
  where
    by_place : (b : Bool) → nat_lt (position_or_len p xs) (length xs) ≡ b
        → cond b (Some (position_or_len p xs)) None ≡ Some i → i < length xs
    by_place true within e = let here : position_or_len p xs ≡ i = cc in grind (arith, nat_tests)
    by_place false within e = cc

-- what is held after bytes were put at a place, under the name of the file there
pub held_under-set : (name : List ℕ) (files : List HeldFile) (i : ℕ) (file d : HeldFile)
    → position (has_name name) files ≡ Some i
    → string_bytes file.name ≡ string_bytes (get_or files i d).name → (asked : List ℕ)
    → held_under (set files i file) asked
    ≡ (if bytes_eq name asked then Some file.bytes.items else held_under files asked)
held_under-set name files i file d found same asked = by_name (bytes_eq name asked) refl
  where
    passes : has_name name (get_or files i d) ≡ true
    passes = (position-Some (has_name name) files i d found).1

    named : string_bytes file.name ≡ name
    named = same ∙ (bytes_eq-Decides (string_bytes (get_or files i d).name) name).0 passes

    at_name : held_under (set files i file) name ≡ Some file.bytes.items
    at_name =
        ap (option_map (λ f. f.bytes.items))
        (find-set (has_name name) files i file
        (position_is (has_name name) files i found)
        (position-within (has_name name) files i found)
        ((bytes_eq-Decides (string_bytes file.name) name).1 named))

    by_name : (b : Bool) → bytes_eq name asked ≡ b
        → held_under (set files i file) asked
        ≡ (if b then Some file.bytes.items else held_under files asked)
    by_name true e =
        let P : List ℕ → Type 0 = λ n. held_under (set files i file) n ≡ Some file.bytes.items in
        subst P ((bytes_eq-Decides name asked).0 e) at_name
    by_name false e =
        ap (option_map (λ f. f.bytes.items))
        (find-set_other (has_name asked) files i file d
        (ap (λ n. bytes_eq n asked) named ∙ e)
        (ap (λ n. bytes_eq n asked) (sym same ∙ named) ∙ e))

-- what is held after a file of a new name was put behind the others
pub held_under-push : (name : List ℕ) (files : List HeldFile) (file : HeldFile)
    → position (has_name name) files ≡ None
    → string_bytes file.name ≡ name → (asked : List ℕ)
    → held_under (files ++ file ∷ []) asked
    ≡ (if bytes_eq name asked then Some file.bytes.items else held_under files asked)
held_under-push name files file absent named asked = by_name (bytes_eq name asked) refl
  where
    at_name : held_under (files ++ file ∷ []) name ≡ Some file.bytes.items
    at_name =
        ap (option_map (λ f. f.bytes.items))
        (find-push_same (has_name name) files file
        ((bytes_eq-Decides (string_bytes file.name) name).1 named)
        (find-position (has_name name) files ∙ ap (option_and_then (slice_get files)) absent))

    by_name : (b : Bool) → bytes_eq name asked ≡ b
        → held_under (files ++ file ∷ []) asked
        ≡ (if b then Some file.bytes.items else held_under files asked)
    by_name true e =
        let P : List ℕ → Type 0 = λ n. held_under (files ++ file ∷ []) n ≡ Some file.bytes.items in
        subst P ((bytes_eq-Decides name asked).0 e) at_name
    by_name false e =
        ap (option_map (λ f. f.bytes.items))
        (find-push_other (has_name asked) files file (ap (λ n. bytes_eq n asked) named ∙ e))

-- what is held under a name stands at its place
pub held_under-found : (name : List ℕ) (files : List HeldFile) (place : ℕ)
    → position (has_name name) files ≡ Some place
    → IsPlaceOf files name place
held_under-found name files place found = by_file (slice_get_cases files place).1
  where
    held : held_under files name ≡ option_map (λ f. f.bytes.items) (slice_get files place)
    held =
        ap (option_map (λ f. f.bytes.items))
        (find-position (has_name name) files ∙ ap (option_and_then (slice_get files)) found)

    by_file : ((file : HeldFile) × (place < length files) × (slice_get files place ≡ Some file)
        × (get_or files place file ≡ file))
        ⊎ ((length files ≤ place) × (slice_get files place ≡ None))
        → IsPlaceOf files name place
    by_file (inl there) =
        let file = there.0 in
        let passes = (position-Some (has_name name) files place file found).1 in
        let named : string_bytes file.name ≡ name =
        (bytes_eq-Decides (string_bytes file.name) name).0 (ap (has_name name) (sym there.3) ∙ passes) in
        record {
          within = there.1;
          named = ap (option_map (λ f. string_bytes f.name)) there.2 ∙ ap (λ n. Some n) named;
          held = held ∙ ap (option_map (λ f. f.bytes.items)) there.2
              ∙ ap (λ f. Some (option_map_or (λ x. x.bytes.items) f [])) (sym there.2);
        }
    by_file (inr past) = absurd (omega (arith, past.0, position-within (has_name name) files place found))

-- where no place is found nothing is held
pub held_under-absent : (name : List ℕ) (files : List HeldFile)
    → position (has_name name) files ≡ None → held_under files name ≡ None
held_under-absent name files absent =
    ap (option_map (λ f. f.bytes.items))
    (find-position (has_name name) files ∙ ap (option_and_then (slice_get files)) absent)

-- what a search by name gives: the place of what is held, or nothing where nothing is
pub place_of-position : (name : List ℕ) (files : List HeldFile) (result : Option ℕ)
    → result ≡ position (has_name name) files
    → IfSome result (IsPlaceOf files name) × IfNone result (held_under files name ≡ None)
place_of-position name files None e = (tt, held_under-absent name files (sym e))
place_of-position name files (Some place) e = (held_under-found name files place (sym e), tt)

-- the bytes at a place within the list
pub bytes_at-get_or : (files : List HeldFile) (place : ℕ) (d : HeldFile) → place < length files
    → bytes_at files place ≡ (get_or files place d).bytes.items
bytes_at-get_or files place d within =
    ap (λ file. option_map_or (λ f. f.bytes.items) file []) (slice_get-get_or files place d within)

-- an open file that is held has a name
pub open_name-within : (files : List HeldFile) (opened : Option OpenFile) (file : OpenFile)
    → opened ≡ Some file
    → file.place < length files → open_name files opened ≡ None → ⊥
open_name-within files opened file is_open within none = by_file (slice_get_cases files file.place).1
  where
    named : option_map (λ f. string_bytes f.name) (slice_get files file.place) ≡ None
    named = ap (open_name files) (sym is_open) ∙ none

    by_file : ((f : HeldFile) × (file.place < length files) × (slice_get files file.place ≡ Some f)
        × (get_or files file.place f ≡ f))
        ⊎ ((length files ≤ file.place) × (slice_get files file.place ≡ None)) → ⊥
    by_file (inl there) =
        let e : Some (string_bytes there.0.name) ≡ None =
        ap (option_map (λ f. string_bytes f.name)) (sym there.2) ∙ named in
        cc
    by_file (inr past) = omega (arith, past.0)

-- what is left is the piece that was copied and what is left after it
pub pieces_of-rest : (known bytes : List ℕ) (taken count : ℕ) (piece behind : List ℕ)
    → known ≡ bytes
    → piece ≡ take count (take (length bytes - taken) (drop taken bytes))
    → count ≤ length (drop taken bytes)
    → drop taken known ≡ take count (piece ++ behind) ++ drop (taken + count) known
pieces_of-rest known bytes taken count piece behind same copied within =
    let rest : piece ≡ take count (drop taken bytes) = copied
    ∙ ap (take count) (take-rest taken bytes) in
    let size : length piece ≡ count = ap length rest
    ∙ length-take-le count (drop taken bytes) within in
    let front : take count (piece ++ behind) ≡ take count (drop taken bytes) =
    take_at piece behind count size ∙ rest in
    let back : drop (taken + count) known ≡ drop count (drop taken bytes) =
    ap (drop (taken + count)) same ∙ sym (drop-drop count taken bytes) in
    ap (drop taken) same
    ∙ sym (take-append-drop count (drop taken bytes))
    ∙ ap (λ xs. xs ++ drop count (drop taken bytes)) (sym front)
    ∙ ap (λ xs. take count (piece ++ behind) ++ xs) (sym back)
