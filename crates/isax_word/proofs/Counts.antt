-- Counting the numbers of a run that pass a test which, once it fails, fails from there on
-- (`count_splits`).
use Rattle.std.proofs.Common.{◌≡◌, ℕ, zero, suc, ◌+◌, ◌-◌, ◌<◌, ◌≤◌, Bool, true, false, cond, arith, sym, ap, subst, ◌∙◌, ⊎_elim, List, ◌∷◌}
use Rattle.std.specs.Prelude.{count_by}
use Rattle.std.specs.List.{range_with_len}
use Rattle.std.proofs.lemmas.Bool.{cases_lt, cases_Bool, false_from_ne_true, false≢true}
use Rattle.std.proofs.lemmas.List.Sums.{sum_by-cons}

-- a test that passes at a number of a run passes at each earlier number of the run
abbrev pub Falls : (ℕ → Bool) → ℕ → ℕ → Type 0
Falls p a n = (i j : ℕ) → i ≤ j → j < n → p (a + j) ≡ true → p (a + i) ≡ true

-- the count at the front of a list, then the rest
count-cons : (p : ℕ → Bool) (x : ℕ) (xs : List ℕ)
    → count_by p (x ∷ xs) ≡ cond (p x) 1 0 + count_by p xs
count-cons p x xs = sum_by-cons (λ y. cond (p y) 1 0) x xs

-- where the first k numbers of a run pass and the others fail, k of them pass
pub count_is : (p : ℕ → Bool) (a n k : ℕ) → k ≤ n
    → ((i : ℕ) → i < k → p (a + i) ≡ true) → ((i : ℕ) → k ≤ i → i < n → p (a + i) ≡ false)
    → count_by p (range_with_len a n) ≡ k
count_is p a zero k inside passing failing = omega arith
count_is p a (suc n) zero inside passing failing =
    let place : a + 0 ≡ a = omega arith in
    let here : p a ≡ false
    = subst (λ j. p j ≡ false) place (failing 0 (omega arith) (omega arith)) in
    let rest : count_by p (range_with_len (a + 1) n) ≡ 0
    = count_is p (a + 1) n 0 (omega arith) (λ i below. absurd (omega arith))
    (λ i from below. subst (λ j. p j ≡ false) (omega arith)
    (failing (i + 1) (omega arith) (omega arith))) in
    let none : cond false 1 0 + count_by p (range_with_len (a + 1) n) ≡ 0 = omega (arith, rest) in
    count-cons p a (range_with_len (a + 1) n)
    ∙ ap (λ b. cond b 1 0 + count_by p (range_with_len (a + 1) n)) here
    ∙ none
count_is p a (suc n) (suc k) inside passing failing =
    let place : a + 0 ≡ a = omega arith in
    let here : p a ≡ true = subst (λ j. p j ≡ true) place (passing 0 (omega arith)) in
    let rest : count_by p (range_with_len (a + 1) n) ≡ k
    = count_is p (a + 1) n k (omega arith)
    (λ i below. subst (λ j. p j ≡ true) (omega arith) (passing (i + 1) (omega arith)))
    (λ i from below. subst (λ j. p j ≡ false) (omega arith)
    (failing (i + 1) (omega arith) (omega arith))) in
    let one : cond true 1 0 + count_by p (range_with_len (a + 1) n) ≡ suc k = omega (arith, rest) in
    count-cons p a (range_with_len (a + 1) n)
    ∙ ap (λ b. cond b 1 0 + count_by p (range_with_len (a + 1) n)) here
    ∙ one

-- what a count c says of a run: the first c numbers pass, and none behind them
pub record Splits (p : ℕ → Bool) (a n c : ℕ) : Type 0 where
  pub inside : c ≤ n
  pub before : (i : ℕ) → i < c → p (a + i) ≡ true
  pub behind : (i : ℕ) → c ≤ i → i < n → p (a + i) ≡ false

-- where the first number of a run passes, one more than of the rest passes
splits_more : (p : ℕ → Bool) (a n c : ℕ) → p a ≡ true → Splits p (a + 1) n c
    → Splits p a (suc n) (suc c)
splits_more p a n c here rest =
    record {
      inside = omega (arith, rest.inside);
      before =
          λ i below. ⊎_elim
          (λ first. let place : a ≡ a + i = omega arith in subst (λ j. p j ≡ true) place here)
          (λ later. let place : (a + 1) + (i - 1) ≡ a + i = omega arith in
          subst (λ j. p j ≡ true) place (rest.before (i - 1) (omega arith))) (cases_lt i 1);
      behind = λ i from below. let place : (a + 1) + (i - 1) ≡ a + i = omega arith in
          subst (λ j. p j ≡ false) place (rest.behind (i - 1) (omega arith) (omega arith));
    }

-- where the first number of a run fails a falling test, none passes
splits_none : (p : ℕ → Bool) (a n : ℕ) → p a ≡ false → Falls p a (suc n) → Splits p a (suc n) 0
splits_none p a n here falls =
    let first : a + 0 ≡ a = omega arith in
    let failed : p (a + 0) ≡ false = ap p first ∙ here in
    record {
      inside = omega arith;
      before = λ i below. absurd (omega arith);
      behind = λ i from below. false_from_ne_true (p (a + i))
          (λ passes. false≢true (sym failed ∙ falls 0 i (omega arith) below passes));
    }

-- a count of a falling test splits the run
pub count_splits : (p : ℕ → Bool) (a n : ℕ) → Falls p a n
    → Splits p a n (count_by p (range_with_len a n))
count_splits p a zero falls =
    record {
      inside = omega arith;
      before = λ i below. absurd (omega arith);
      behind = λ i from below. absurd (omega arith);
    }
count_splits p a (suc n) falls =
    let shifted : Falls p (a + 1) n
    = λ i j before last passes.
    let from : (a + 1) + j ≡ a + (j + 1) = omega arith in
    let to : a + (i + 1) ≡ (a + 1) + i = omega arith in
    subst (λ k. p k ≡ true) to
    (falls (i + 1) (j + 1) (omega arith) (omega arith) (subst (λ k. p k ≡ true) from passes)) in
    let count = count_by p (range_with_len (a + 1) n) in
    let rest : Splits p (a + 1) n count = count_splits p (a + 1) n shifted in
    ⊎_elim
    (λ here.
    let one : count_by p (range_with_len a (suc n)) ≡ suc count
    = count-cons p a (range_with_len (a + 1) n) ∙ ap (λ b. cond b 1 0 + count) here ∙ omega arith in
    subst (Splits p a (suc n)) (sym one) (splits_more p a n count here rest))
    (λ here.
    let none = splits_none p a n here falls in
    let zero_of : count_by p (range_with_len a (suc n)) ≡ 0
    = count_is p a (suc n) 0 (omega arith) (λ i below. absurd (omega arith)) none.behind in
    subst (Splits p a (suc n)) (sym zero_of) none)
    (cases_Bool (p a))
