-- The main result is `breakpoint_ascends`: of two places of a table the later holds the greater
-- breakpoint.
use Rattle.std.proofs.Common.{◌≡◌, ℕ, zero, suc, ◌+◌, ◌-◌, ◌<◌, ◌≤◌, pos, neg_ℤ, ◌<ℤ◌, ◌≤ℤ◌, ⊎_elim, Bool, true, false, refl, arith, get_or, length, sym, ◌∙◌, ap, subst}
use Rattle.std.specs.Prelude.{int_lt}
use Rattle.std.specs.List.{list_all, range_with_len}
use Rattle.std.proofs.lemmas.Int.{ints}
use Rattle.std.proofs.lemmas.Bool.{cases_lt}
use Rattle.std.proofs.lemmas.List.Folds.{list_all_at}
use Rattle.std.proofs.lemmas.List.FromFn.{get_or-range_with_len, length-range_with_len}
use Rattle.breakpoints.specs.declared.table.Table.{Table}
use Rattle.breakpoints.specs.declared.table.Table.TheVariants.{Flat, Bent}
use Rattle.breakpoints.specs.Breakpoint.{breakpoint}

-- each breakpoint but the last is below the next, computed over a whole table
neighbours : (t : Table)
    → list_all (λ i. int_lt (breakpoint t i) (breakpoint t (i + 1))) (range_with_len 1 254) ≡ true
neighbours Flat = refl
neighbours Bent = refl

-- a test that passes over a whole run of numbers passes at each of them
passes_at : (p : ℕ → Bool) (a n i : ℕ) → list_all p (range_with_len a n) ≡ true → i < n
    → p (a + i) ≡ true
passes_at p a n i whole inside = by_test (p (a + i)) refl
  where
    -- the test at this place cannot fail
    by_test : (b : Bool) → p (a + i) ≡ b → b ≡ true
    by_test true e = refl
    by_test false e =
        let below : i < length (range_with_len a n) = omega (arith, length-range_with_len a n) in
        let place : get_or (range_with_len a n) i 0 ≡ a + i
        = get_or-range_with_len a n i 0 inside in
        let fails : list_all p (range_with_len a n) ≡ false
        = list_all_at p _ i 0 below (ap p place ∙ e) in
        cc

-- each breakpoint but the last is below the next
next_above : (t : Table) (i : ℕ) → 1 ≤ i → i < 255 → breakpoint t i <ℤ breakpoint t (i + 1)
next_above t i first inside =
    let places : 1 + (i - 1) ≡ i = omega arith in
    let below : i - 1 < 254 = omega arith in
    let tests = λ (k : ℕ). int_lt (breakpoint t k) (breakpoint t (k + 1)) in
    let passes : tests (1 + (i - 1)) ≡ true = passes_at tests 1 254 (i - 1) (neighbours t) below in
    let here : tests i ≡ true = ap tests (sym places) ∙ passes in
    omega (arith, ints)

-- the breakpoint n + 1 places on is greater
later_above : (t : Table) (i n : ℕ) → 1 ≤ i → i + suc n ≤ 255
    → breakpoint t i <ℤ breakpoint t (i + suc n)
later_above t i zero first last =
    let one : i + 1 ≡ i + suc zero = omega arith in
    let above : breakpoint t i <ℤ breakpoint t (i + 1) = next_above t i first (omega arith) in
    subst (λ j. breakpoint t i <ℤ breakpoint t j) one above
later_above t i (suc n) first last =
    let one : (i + suc n) + 1 ≡ i + suc (suc n) = omega arith in
    let before : breakpoint t i <ℤ breakpoint t (i + suc n)
    = later_above t i n first (omega arith) in
    let above : breakpoint t (i + suc n) <ℤ breakpoint t ((i + suc n) + 1)
    = next_above t (i + suc n) (omega arith) (omega arith) in
    let both : breakpoint t i <ℤ breakpoint t ((i + suc n) + 1) = omega (arith, ints) in
    subst (λ j. breakpoint t i <ℤ breakpoint t j) one both

-- of two places of a table the later holds the greater breakpoint
pub breakpoint_ascends : (t : Table) (i j : ℕ) → 1 ≤ i → i < j → j ≤ 255
    → breakpoint t i <ℤ breakpoint t j
breakpoint_ascends t i j first before last =
    let there : i + suc (j - suc i) ≡ j = omega arith in
    let above = later_above t i (j - suc i) first (omega arith) in
    subst (λ k. breakpoint t i <ℤ breakpoint t k) there above

-- of two places of a table no earlier one holds a greater breakpoint
pub breakpoint_rises : (t : Table) (i j : ℕ) → 1 ≤ i → i ≤ j → j ≤ 255
    → breakpoint t i ≤ℤ breakpoint t j
breakpoint_rises t i j first before last =
    ⊎_elim (λ later. omega (arith, ints, breakpoint_ascends t i j first later last))
    (λ same. let one : i ≡ j = omega arith in
    subst (λ k. breakpoint t i ≤ℤ breakpoint t k) one (omega (arith, ints)))
    (cases_lt i j)

-- the breakpoints of a table lie from -32512 to 32512
pub breakpoint_within : (t : Table) (i : ℕ) → 1 ≤ i → i ≤ 255
    → (neg_ℤ (pos 32512) ≤ℤ breakpoint t i) × (breakpoint t i ≤ℤ pos 32512)
breakpoint_within Flat i first last = (
  omega (arith, ints, breakpoint_rises Flat 1 i (omega arith) first last),
  omega (arith, ints, breakpoint_rises Flat i 255 first last (omega arith)),
)
breakpoint_within Bent i first last = (
  omega (arith, ints, breakpoint_rises Bent 1 i (omega arith) first last),
  omega (arith, ints, breakpoint_rises Bent i 255 first last (omega arith)),
)
