-- A list that is filled from the front by a function of the place, and padded behind (`fill_next`).
use Rattle.std.proofs.Common.{◌≡◌, ℕ, suc, ◌+◌, ◌-◌, ◌<◌, arith, List, [], ◌∷◌, ◌++◌, map, replicate, length, set, sym, ◌∙◌, ap, append_assoc}
use Rattle.std.specs.List.{range_with_len}
use Rattle.std.proofs.lemmas.List.{set_at}
use Rattle.std.proofs.lemmas.List.FromFn.{map-range_with_len_more, length-map-range_with_len}

-- the first k values of f, then copies of a padding up to n places
abbrev pub filled : {X : Type 0} → (ℕ → X) → X → ℕ → ℕ → List X
filled f padding n k = map f (range_with_len 0 k) ++ replicate (n - k) padding

-- writing the value of f at the first padded place fills one place more
pub fill_next : {X : Type 0} (f : ℕ → X) (padding : X) (n k : ℕ) (xs : List X) (y : X)
    → k < n → xs ≡ filled f padding n k → y ≡ f k → set xs k y ≡ filled f padding n (k + 1)
fill_next {X} f padding n k xs y inside so value =
    let front = map f (range_with_len 0 k) in
    let behind = replicate (n - (k + 1)) padding in
    let one_less : n - k ≡ suc (n - (k + 1)) = omega arith in
    let long : length front ≡ k = length-map-range_with_len f 0 k in
    let split : xs ≡ front ++ padding ∷ behind = so
    ∙ ap (λ m. front ++ replicate m padding) one_less in
    let more : map f (range_with_len 0 (k + 1)) ≡ front ++ f k ∷ []
    = map-range_with_len_more f 0 k k (omega arith) in
    ap (λ (l : List X). set l k y) split
    ∙ set_at front padding behind y k long
    ∙ ap (λ v. front ++ v ∷ behind) value
    ∙ sym (append_assoc front (f k ∷ []) behind)
    ∙ ap (λ l. l ++ behind) (sym more)
