-- Tests over the numbers from a on: the first that passes (`find_in_range`), and all of them
-- (`all_in_range`).
use Rattle.std.proofs.Common.{◌≡◌, ℕ, zero, suc, ◌+◌, ◌<◌, ◌≤◌, Bool, true, false, refl, ap, ◌∙◌, ⊎_elim, arith}
use Rattle.std.specs.Prelude.{Some, find}
use Rattle.std.specs.List.{list_all, range_with_len}
use Rattle.std.proofs.lemmas.Bool.{cond-true, cond-false, cases_eq, and_from, and_left, and_right}

-- the first of the numbers that passes the test is found
pub find_in_range : (p : ℕ → Bool) (a n i : ℕ) → a ≤ i → i < a + n → p i ≡ true
    → ((k : ℕ) → a ≤ k → k < i → p k ≡ false) → find p (range_with_len a n) ≡ Some i
find_in_range p a zero i low high passes before = absurd (omega arith)
find_in_range p a (suc n) i low high passes before =
    let rest = find p (range_with_len (a + 1) n) in
    ⊎_elim
    (λ same. cond-true (p a) (Some a) rest (ap p same ∙ passes) ∙ ap Some same)
    (λ other. cond-false (p a) (Some a) rest (before a (omega arith) (omega (arith, other)))
    ∙ find_in_range p (a + 1) n i (omega (arith, other)) (omega arith) passes
    (λ k from to. before k (omega arith) to))
    (cases_eq a i)

-- all of the numbers pass a test that each of them passes
pub all_in_range : (p : ℕ → Bool) (a n : ℕ) → ((k : ℕ) → a ≤ k → k < a + n → p k ≡ true)
    → list_all p (range_with_len a n) ≡ true
all_in_range p a zero passes = refl
all_in_range p a (suc n) passes =
    and_from (p a) (list_all p (range_with_len (a + 1) n)) (passes a (omega arith) (omega arith))
    (all_in_range p (a + 1) n (λ k from to. passes k (omega arith) (omega arith)))

-- not all pass where one does not
pub not_all_in_range : (p : ℕ → Bool) (a n k : ℕ) → a ≤ k → k < a + n → p k ≡ false
    → list_all p (range_with_len a n) ≡ false
not_all_in_range p a zero k low high fails = absurd (omega arith)
not_all_in_range p a (suc n) k low high fails =
    let rest = list_all p (range_with_len (a + 1) n) in
    ⊎_elim
    (λ same. and_left (p a) rest (ap p same ∙ fails))
    (λ other. and_right (p a) rest
    (not_all_in_range p (a + 1) n k (omega (arith, other)) (omega arith) fails))
    (cases_eq a k)
