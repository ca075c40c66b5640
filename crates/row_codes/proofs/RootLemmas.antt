-- The root of a number, rounded down: its square is at most that number (`root_low`), and that of the next is above it (`root_high`), so
-- no other number is it (`root_is`). The root rounded up has a square that is as great (`root_up_high`).
use Rattle.std.proofs.Common.{◌≡◌, ℕ, zero, suc, ◌+◌, ◌<◌, ◌≤◌, ap, arith, refl, subst, sym, ◌⊎◌, ⊎_elim, inl, inr, cond}
use Rattle.std.proofs.lemmas.Bool.{cases_lt, le-leb, lt-leb}
use Rattle.std.proofs.lemmas.Nat.{mul-le}
use Rattle.row_codes.specs.Roots.{root, root_up, roots, square}

-- all numbers up to one whose square is small enough are counted
roots_full : (n k : ℕ) → square k ≤ n → roots n k ≡ k
roots_full n zero small = refl
roots_full n (suc k) small =
    omega (arith, roots_full n k (omega (arith, small)), ap {B = ℕ} (λ b. cond b 1 0) (le-leb (square (suc k)) n small))

-- and one whose square is too great is not
roots_same : (n k : ℕ) → n < square (suc k) → roots n (suc k) ≡ roots n k
roots_same n k far = omega (arith, ap {B = ℕ} (λ b. cond b 1 0) (lt-leb (square (suc k)) n far))

-- the square of the count is at most the number
roots_low : (n k : ℕ) → square (roots n k) ≤ n
roots_low n zero = omega arith
roots_low n (suc k) = by_cases (roots_low n k) (cases_lt n (square (suc k)))
  where
    by_cases : square (roots n k) ≤ n → (n < square (suc k)) ⊎ (square (suc k) ≤ n) → square (roots n (suc k)) ≤ n
    by_cases rest (inl far) = subst (λ m. square m ≤ n) (sym (roots_same n k far)) rest
    by_cases rest (inr small) = subst (λ m. square m ≤ n) (sym (roots_full n (suc k) small)) small

-- and that of the next is above it, where that of the next of all is
roots_high : (n k : ℕ) → n < square (suc k) → n < square (suc (roots n k))
roots_high n zero far = far
roots_high n (suc k) far = by_cases (roots_high n k) (cases_lt n (square (suc k)))
  where
    by_cases : (n < square (suc k) → n < square (suc (roots n k))) → (n < square (suc k)) ⊎ (square (suc k) ≤ n)
        → n < square (suc (roots n (suc k)))
    by_cases rest (inl near) = subst (λ m. n < square (suc m)) (sym (roots_same n k near)) (rest near)
    by_cases rest (inr small) = subst (λ m. n < square (suc m)) (sym (roots_full n (suc k) small)) far

pub root_low : (n : ℕ) → square (root n) ≤ n
unfolding root
root_low n = roots_low n n

pub root_high : (n : ℕ) → n < square (root n + 1)
unfolding root
root_high n = next n (roots n n) (roots_high n n (omega arith))
  where
    next : (n r : ℕ) → n < square (suc r) → n < square (r + 1)
    next n r high = omega (arith, high)

-- a number whose square is less than that of another is less
pub root_less : (p n : ℕ) → square p < square n → p < n
root_less p n small =
    ⊎_elim (λ less. less) (λ most. absurd (omega (arith, small, mul-le n n p p most most))) (cases_lt p n)

-- and one whose square is at most that of another is at most the other
pub root_below : (p n : ℕ) → square p ≤ square n → p ≤ n
root_below p n small = omega (arith, root_less p (n + 1) (omega (arith, small)))

-- what lies between the squares of two next numbers has the first as its root
pub root_is : (n r : ℕ) → square r ≤ n → n < square (r + 1) → root n ≡ r
root_is n r low high =
    let most = root_less (root n) (r + 1) (omega (arith, root_low n, high)) in
    let least = root_less r (root n + 1) (omega (arith, root_high n, low)) in
    omega (arith, most, least)

-- the square of the root rounded up is as great as the number
pub root_up_high : (n : ℕ) → n ≤ square (root_up n)
root_up_high zero = omega arith
root_up_high (suc n) = omega (arith, root_high n)

-- and the root rounded up is at most what has such a square
pub root_up_small : (n r : ℕ) → n ≤ square r → root_up n ≤ r
root_up_small zero r high = omega arith
root_up_small (suc n) r high = omega (arith, root_less (root n) r (omega (arith, root_low n, high)))
