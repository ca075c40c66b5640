-- How often a number stands in a list, and the sums of such counts over all numbers below one.
use Rattle.std.proofs.Common.{List, [], arith, inl, inr, length, refl, suc, zero, ℕ, ⊎_elim, ◌+◌, ◌<◌, ◌∷◌, ◌≡◌, ◌≤◌, ◌⊎◌}
use Rattle.std.proofs.lemmas.Bool.{cases_eq}
use Rattle.std.proofs.lemmas.Bool.Decides.{nat_tests}
use Rattle.list_totals.specs.Totals.{one_if_same, times, total}

-- a number counts as itself
pub same_counts : (l : ℕ) → one_if_same l l ≡ 1
same_counts l = grind (arith, nat_tests)

-- two numbers count as one where they are the same, and else as nothing
pub counts_or_not : (l m : ℕ) → ((one_if_same l m ≡ 1) × (l ≡ m)) ⊎ (one_if_same l m ≡ 0)
counts_or_not l m = grind (arith, nat_tests)

-- different numbers count as nothing
pub others_count : (l m : ℕ) → (l ≡ m → ⊥) → one_if_same l m ≡ 0
others_count l m h = grind (arith, nat_tests)

-- equal numbers count as one
pub equal_counts : (l m : ℕ) → l ≡ m → one_if_same l m ≡ 1
equal_counts l m e = grind (arith, nat_tests)

-- a number that stands in a list is its first or stands in the rest
pub times_cons : (l m : ℕ) (ms : List ℕ) → 0 < times l (m ∷ ms) → (l ≡ m) ⊎ (0 < times l ms)
times_cons l m ms h = ⊎_elim
    (λ (c : (one_if_same l m ≡ 1) × (l ≡ m)). inl c.1)
    (λ (c : one_if_same l m ≡ 0). inr (omega arith))
    (counts_or_not l m)

-- the sum of f over the numbers below n
abbrev pub sum_below : (ℕ → ℕ) → ℕ → ℕ
sum_below f zero = 0
sum_below f (suc n) = f n + sum_below f n

sum_add : (f h : ℕ → ℕ) (n : ℕ) → sum_below (λ l. f l + h l) n ≡ sum_below f n + sum_below h n
sum_add f h zero = refl
sum_add f h (suc n) = let a = sum_add f h n in omega arith

-- where f is at most h, so is the sum
pub sum_le : (f h : ℕ → ℕ) (n : ℕ) → ((l : ℕ) → f l ≤ h l) → sum_below f n ≤ sum_below h n
sum_le f h zero le = omega arith
sum_le f h (suc n) le = let a = sum_le f h n le in let b = le n in omega arith

-- n ones are n
pub sum_ones : (n : ℕ) → sum_below (λ l. 1) n ≡ n
sum_ones zero = refl
sum_ones (suc n) = let a = sum_ones n in omega arith

sum_zero : (n : ℕ) → sum_below (λ l. 0) n ≡ 0
sum_zero zero = refl
sum_zero (suc n) = let a = sum_zero n in omega arith

-- a number that is not below n is not counted there
sum_past : (x n : ℕ) → n ≤ x → sum_below (λ l. one_if_same l x) n ≡ 0
sum_past x zero h = refl
sum_past x (suc n) h =
    let a = sum_past x n (omega arith) in
    let b = others_count n x (λ e. omega arith) in
    omega arith

-- a number below n is counted there once
sum_one : (x n : ℕ) → x < n → sum_below (λ l. one_if_same l x) n ≡ 1
sum_one x zero h = absurd (omega arith)
sum_one x (suc n) h = ⊎_elim
    (λ (e : n ≡ x).
    let a = sum_past x n (omega arith) in let c = equal_counts n x e in omega arith)
    (λ (ne : n ≡ x → ⊥).
    let a = sum_one x n (omega arith) in let b = others_count n x ne in omega arith)
    (cases_eq n x)

-- a list of numbers below n is as long as the sum of how often each stands in it
pub length_sum : (n : ℕ) (xs : List ℕ) → ((l : ℕ) → 0 < times l xs → l < n)
    → length xs ≡ sum_below (λ l. times l xs) n
length_sum n [] low = let a = sum_zero n in omega arith
length_sum n (x ∷ xs) low =
    let here = same_counts x in
    let a = length_sum n xs (λ l h. low l (omega arith)) in
    let b = sum_add (λ l. one_if_same l x) (λ l. times l xs) n in
    let c = sum_one x n (low x (omega arith)) in
    omega arith

-- the same for the lengths of several lists together
pub lengths_sum : (n : ℕ) (rs : List (List ℕ))
    → ((l : ℕ) → 0 < total (times l) rs → l < n)
    → total (λ (r : List ℕ). length r) rs ≡ sum_below (λ l. total (times l) rs) n
lengths_sum n [] low = let a = sum_zero n in omega arith
lengths_sum n (r ∷ rs) low =
    let a = lengths_sum n rs (λ l h. low l (omega arith)) in
    let b = sum_add (λ l. times l r) (λ l. total (times l) rs) n in
    let c = length_sum n r (λ l h. low l (omega arith)) in
    omega arith
