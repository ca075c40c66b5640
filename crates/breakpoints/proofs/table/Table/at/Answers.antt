-- The product is the breakpoint, which lies within its bounds.
use Rattle.std.proofs.Common.{◌≡◌, ℕ, ◌≤◌, ◌∙◌, pos, neg_ℤ, ◌≤ℤ◌, ℤ, ap, sym, subst, arith, to_z, of_z}
use Rattle.std.specs.Prelude.{◌+ℤ◌, ◌-ℤ◌, ◌*ℤ◌, FitsSigned, unsigned_abs}
use Rattle.std.proofs.lemmas.Int.{ints, to_z-of_z}
use mir.Syntax.{w16, w32}
use Rattle.breakpoints.specs.declared.table.Table.{Table}
use Rattle.breakpoints.specs.declared.table.Table.TheVariants.{Bent}
use Rattle.breakpoints.specs.Breakpoint.{breakpoint, from_middle}
use Rattle.breakpoints.proofs.Ascending.{breakpoint_within}
use Rattle.breakpoints.proofs.table.Table.at.Goals as goal

-- how far the place lies from the middle
place : (i : ℕ) → i ≤ 255 → to_z w16 (of_z w16 (to_z w16 i -ℤ pos 128)) ≡ from_middle i
place i last = omega (arith, ints, last)

-- the steps of the other factor
steps : (i : ℕ) (m a : ℤ) → i ≤ 255 → m ≡ from_middle i → a ≡ pos (unsigned_abs m)
    → to_z w16 (of_z w16 (pos 64 +ℤ to_z w16 (of_z w16 a))) ≡ pos 64 +ℤ pos (unsigned_abs (from_middle i))
steps i m a last is size = omega (arith, ints, last, is, size)

-- their product
product : (i : ℕ) (m a : ℤ) → i ≤ 255 → m ≡ from_middle i → a ≡ pos (unsigned_abs m)
    → m *ℤ to_z w16 (of_z w16 (pos 64 +ℤ to_z w16 (of_z w16 a))) ≡ breakpoint Bent i
product i m a last is size =
    ap (λ z. z *ℤ to_z w16 (of_z w16 (pos 64 +ℤ to_z w16 (of_z w16 a)))) is
    ∙ ap (λ z. from_middle i *ℤ z) (steps i m a last is size)

-- a breakpoint fits
fits : (t : Table) (i : ℕ) → 1 ≤ i → i ≤ 255 → FitsSigned w16 (breakpoint t i)
fits t i first last = omega (arith, ints, (breakpoint_within t i first last).0, (breakpoint_within t i first last).1)

-- so it is what was computed in 16 bits
computed : (i : ℕ) (z : ℤ) → 1 ≤ i → i ≤ 255 → z ≡ breakpoint Bent i → to_z w16 (of_z w16 z) ≡ breakpoint Bent i
computed i z first last is = ap (λ x. to_z w16 (of_z w16 x)) is ∙ to_z-of_z w16 (breakpoint Bent i) (fits Bent i first last)

-- and what these are read as in 32
widened : (i : ℕ) (r z : ℤ) → 1 ≤ i → i ≤ 255 → z ≡ breakpoint Bent i → r ≡ to_z w16 (of_z w16 z)
    → to_z w32 (of_z w32 r) ≡ breakpoint Bent i
widened i r z first last is read =
    let same : r ≡ breakpoint Bent i = read ∙ computed i z first last is in
    let within = breakpoint_within Bent i first last in
    ap (λ x. to_z w32 (of_z w32 x)) same
    ∙ to_z-of_z w32 (breakpoint Bent i) (omega (arith, ints, within.0, within.1))

pub overflow_mul-from_middle-in-Bent : goal.overflow_mul-from_middle-in-Bent
overflow_mul-from_middle-in-Bent c =
    let is = product c.args.i _ c.abs.result c.requires.last (place c.args.i c.requires.last) c.abs.ensures.value in
    subst (FitsSigned w16) (sym is) (fits Bent c.args.i c.requires.first c.requires.last)

pub returns-in-Bent-clause-value : goal.returns-in-Bent-clause-value
returns-in-Bent-clause-value c =
    let is = product c.args.i _ c.abs.result c.requires.last (place c.args.i c.requires.last) c.abs.ensures.value in
    widened c.args.i _ _ c.requires.first c.requires.last is c.from-in-Bent.ensures
    ∙ ap (λ t. breakpoint t c.args.i) (sym c.in-Bent.is)

pub returns-in-Bent-clause-not_low : goal.returns-in-Bent-clause-not_low
returns-in-Bent-clause-not_low c =
    let is = product c.args.i _ c.abs.result c.requires.last (place c.args.i c.requires.last) c.abs.ensures.value in
    subst (λ z. neg_ℤ (pos 32512) ≤ℤ z)
    (sym (widened c.args.i _ _ c.requires.first c.requires.last is c.from-in-Bent.ensures))
    (breakpoint_within Bent c.args.i c.requires.first c.requires.last).0

pub returns-in-Bent-clause-not_high : goal.returns-in-Bent-clause-not_high
returns-in-Bent-clause-not_high c =
    let is = product c.args.i _ c.abs.result c.requires.last (place c.args.i c.requires.last) c.abs.ensures.value in
    subst (λ z. z ≤ℤ pos 32512)
    (sym (widened c.args.i _ _ c.requires.first c.requires.last is c.from-in-Bent.ensures))
    (breakpoint_within Bent c.args.i c.requires.first c.requires.last).1
