-- The first refusal of a list, item by item: what a walk over the list has to keep.
use Rattle.std.proofs.Common.{◌≡◌, ℕ, suc, ◌+◌, ◌≤◌, ◌<◌, List, ◌∷◌, drop, get_or, length, Option, Some, None, refl, sym, ap, ◌∙◌, arith, drop-cons}
use Rattle.std.specs.Prelude.{slice_get}
use Rattle.std.proofs.lemmas.List.{drop_all}
use Rattle.std.proofs.lemmas.Option.{get_or_from_slice_get, slice_get_within, slice_get_read}
use Rattle.certificate.specs.declared.error.Reject.{Reject}
use Rattle.certificate.specs.Refusals.{first_of, first_refusal}

-- the items from place i on are the item there and the items behind it
items_from : {X : Type 0} (i : ℕ) (xs : List X) (x : X) → slice_get xs i ≡ Some x → drop i xs ≡ x ∷ drop (i + 1) xs
items_from i xs x here =
    let next : suc i ≡ i + 1 = omega arith in
    drop-cons xs i x (slice_get_within xs i x here)
    ∙ ap (λ y. y ∷ drop (suc i) xs) (get_or_from_slice_get xs i x x here)
    ∙ ap (λ n. x ∷ drop n xs) next

-- an item that is refused is the first one where none before it is
pub refused : {X : Type 0} (test : ℕ → X → Option Reject) (whole : Option Reject) (i : ℕ) (xs : List X) (x : X) (r : Reject)
    → whole ≡ first_refusal test i (drop i xs) → slice_get xs i ≡ Some x → test i x ≡ Some r → Some r ≡ whole
refused test whole i xs x r before here fails =
    sym (before ∙ ap (first_refusal test i) (items_from i xs x here)
    ∙ ap (λ o. first_of o (first_refusal test (i + 1) (drop (i + 1) xs))) fails)

-- an item that is not refused leaves the refusal to the items behind it
pub passed : {X : Type 0} (test : ℕ → X → Option Reject) (whole : Option Reject) (i : ℕ) (xs : List X) (x : X)
    → whole ≡ first_refusal test i (drop i xs) → slice_get xs i ≡ Some x → test i x ≡ None
    → whole ≡ first_refusal test (i + 1) (drop (i + 1) xs)
passed test whole i xs x before here holds =
    before ∙ ap (first_refusal test i) (items_from i xs x here)
    ∙ ap (λ o. first_of o (first_refusal test (i + 1) (drop (i + 1) xs))) holds

-- past the last item there is no refusal
pub walked : {X : Type 0} (test : ℕ → X → Option Reject) (whole : Option Reject) (i : ℕ) (xs : List X)
    → whole ≡ first_refusal test i (drop i xs) → length xs ≤ i → None ≡ whole
walked test whole i xs before past = sym (before ∙ ap (first_refusal test i) (drop_all i xs past))

-- the item that a walk reads
pub read_here : {X : Type 0} (xs : List X) (i : ℕ) (x : X) → i < length xs → x ≡ get_or xs i x → slice_get xs i ≡ Some x
read_here xs i x below is = slice_get_read xs (length xs) i x refl below is
