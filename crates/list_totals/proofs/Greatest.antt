-- The greatest of a list: nothing of it is above.
use Rattle.std.proofs.Common.{◌≡◌, ℕ, zero, suc, ◌≤◌, max, List, [], ◌∷◌, ◌++◌, map, All, refl, ap, arith}
use Rattle.list_totals.specs.Totals.{greatest}

module _ {X : Type 0} (f : X → ℕ) where
  -- a new last item joins the greatest
  pub greatest_push : (xs : List X) (y : X) → greatest f (xs ++ y ∷ []) ≡ max (greatest f xs) (f y)
  greatest_push [] y = omega arith
  greatest_push (x ∷ xs) y = let h = greatest_push xs y in omega arith

  -- each item is at most the greatest
  pub at_most_greatest : (xs : List X) → All (λ x. f x ≤ greatest f xs) xs
  at_most_greatest [] k d in_list = absurd (omega arith)
  at_most_greatest (x ∷ xs) zero d in_list = omega arith
  at_most_greatest (x ∷ xs) (suc k) d in_list = let h = at_most_greatest xs k d (omega arith) in
      omega arith

  -- the greatest is at most what each item is at most
  pub greatest_le : (n : ℕ) (xs : List X) → All (λ x. f x ≤ n) xs → greatest f xs ≤ n
  greatest_le n [] all = omega arith
  greatest_le n (x ∷ xs) all =
      let here : f x ≤ n = all 0 x (omega arith) in
      let rest = greatest_le n xs (λ k d in_list. all (suc k) d (omega arith)) in
      omega arith

-- the greatest of mapped items is the greatest over the items
pub greatest_map : {X Y : Type 0} (f : Y → ℕ) (g : X → Y) (xs : List X)
    → greatest f (map g xs) ≡ greatest (λ x. f (g x)) xs
greatest_map f g [] = refl
greatest_map f g (x ∷ xs) = ap (λ n. max (f (g x)) n) (greatest_map f g xs)
