-- A list round an item of it: the parts before and behind it (`split_at`), and what is left of a total without the item
-- (`split_rest`).
use Rattle.std.proofs.Common.{List, [], ap, arith, sym, ℕ, ⊎_elim, ◌++◌, ◌<◌, ◌∷◌, ◌≡◌, ◌⊎◌}
use Rattle.list_totals.specs.Totals.{total}
use Rattle.list_totals.proofs.Totals.{total_append}

-- the two parts round an item
pub record Split {X : Type 0} (x : X) (xs : List X) : Type 0 where
  pub before : List X
  pub behind : List X
  pub is : xs ≡ before ++ x ∷ behind

-- an item divides a list in which something counts, where nothing else does
pub split_at : {X : Type 0} (f : X → ℕ) (x : X) (xs : List X) → ((y : X) → (x ≡ y) ⊎ (f y ≡ 0)) → 0 < total f xs
    → Split x xs
split_at f x [] alone some = absurd (omega arith)
split_at f x (y ∷ ys) alone some = ⊎_elim
    (λ (same : x ≡ y). record { before = []; behind = ys; is = ap (λ z. z ∷ ys) (sym same) })
    (λ (other : f y ≡ 0).
    let rest = split_at f x ys alone (omega arith) in
    record { before = y ∷ rest.before; behind = rest.behind; is = ap (λ l. y ∷ l) rest.is })
    (alone y)

-- lists of which the one begins with an item of the other have the same total without it
pub split_rest : {X : Type 0} (f : X → ℕ) (x : X) (xs ys : List X) (s : Split x ys) → total f (x ∷ xs) ≡ total f ys
    → total f xs ≡ total f (s.before ++ s.behind)
split_rest f x xs ys s same =
    let cut = ap (total f) s.is in
    let parts = total_append f s.before (x ∷ s.behind) in
    let joined = total_append f s.before s.behind in
    omega arith
