-- Pigeons and holes: where no two items have the same number, and each number is below n, there are at most n items.
use Rattle.std.proofs.Common.{◌≡◌, ◌⊎◌, ℕ, zero, suc, ◌+◌, ◌<◌, ◌≤◌, List, [], ◌∷◌, length, All, refl, inl, inr, ⊎_elim, arith}
use Rattle.std.proofs.lemmas.Bool.Decides.{nat_tests}
use Rattle.list_totals.specs.Below.{sum_below}
use Rattle.list_totals.specs.Totals.{total, one_if_same}
use Rattle.list_totals.proofs.Below.{sum_below_both, sum_below_none}

-- where g is at most 1, its sum over n numbers is at most n
sum_most : (n : ℕ) (g : ℕ → ℕ) → ((y : ℕ) → g y ≤ 1) → sum_below n g ≤ n
sum_most zero g most = omega arith
sum_most (suc n) g most = let here = most n in let rest = sum_most n g most in omega arith

-- two numbers are the same, or one of them is below
same_or_not : (n k : ℕ) → ((n ≡ k) × (one_if_same n k ≡ 1))
    ⊎ (((k < n) ⊎ (n < k)) × (one_if_same n k ≡ 0))
same_or_not n k = grind (arith, nat_tests)

-- a number below n counts once below n, and another not at all
sum_one : (n k : ℕ) → ((k < n) × (sum_below n (λ y. one_if_same y k) ≡ 1))
    ⊎ ((n ≤ k) × (sum_below n (λ y. one_if_same y k) ≡ 0))
sum_one zero k = inr (omega arith, refl)
sum_one (suc n) k = ⊎_elim
    (λ (below : (k < n) × (sum_below n (λ y. one_if_same y k) ≡ 1)).
    let low = below.0 in let one = below.1 in let none = not_same n k low in
    inl (omega arith, omega arith))
    (λ (not : (n ≤ k) × (sum_below n (λ y. one_if_same y k) ≡ 0)). at n k not.0 not.1 (same_or_not n k))
    (sum_one n k)
  where
    not_same : (n k : ℕ) → k < n → one_if_same n k ≡ 0
    not_same n k low = grind (arith, nat_tests)

    at : (n k : ℕ) → n ≤ k → sum_below n (λ y. one_if_same y k) ≡ 0
        → ((n ≡ k) × (one_if_same n k ≡ 1)) ⊎ (((k < n) ⊎ (n < k)) × (one_if_same n k ≡ 0))
        → ((k < suc n) × (one_if_same n k + sum_below n (λ y. one_if_same y k) ≡ 1))
        ⊎ ((suc n ≤ k) × (one_if_same n k + sum_below n (λ y. one_if_same y k) ≡ 0))
    at n k high none which = ⊎_elim
        (λ (same : (n ≡ k) × (one_if_same n k ≡ 1)).
        let e = same.0 in let one = same.1 in inl (omega arith, omega arith))
        (λ (other : ((k < n) ⊎ (n < k)) × (one_if_same n k ≡ 0)).
        let nothing = other.1 in
        inr (
          ⊎_elim (λ (low : k < n). absurd (omega arith)) (λ (more : n < k). omega arith)
              other.0,
          omega arith,
        ))
        which

module _ {X : Type 0} (f : X → ℕ) (n : ℕ) where
  -- the sum of how often each number below n is had is the number of items, where each item has one of them
  counted : (xs : List X) → All (λ x. f x < n) xs
      → sum_below n (λ y. total (λ x. one_if_same y (f x)) xs) ≡ length xs
  counted [] low = sum_below_none n
  counted (x ∷ xs) low =
      let here : f x < n = low 0 x (omega arith) in
      let rest = counted xs (λ k d in_list. low (suc k) d (omega arith)) in
      let both = sum_below_both n (λ y. one_if_same y (f x)) (λ y. total (λ z. one_if_same y (f z)) xs)
      in
      let one = ⊎_elim
      (λ (yes : (f x < n) × (sum_below n (λ y. one_if_same y (f x)) ≡ 1)). yes.1)
      (λ (no : (n ≤ f x) × (sum_below n (λ y. one_if_same y (f x)) ≡ 0)). absurd
      (let high = no.0 in omega arith))
      (sum_one n (f x)) in
      omega arith

  -- where no number is had twice and each is below n, there are at most n items
  pub at_most_holes : (xs : List X) → All (λ x. f x < n) xs
      → ((y : ℕ) → total (λ x. one_if_same y (f x)) xs ≤ 1)
      → length xs ≤ n
  at_most_holes xs low once =
      let most = sum_most n (λ y. total (λ x. one_if_same y (f x)) xs) once in
      let all = counted xs low in
      omega arith
