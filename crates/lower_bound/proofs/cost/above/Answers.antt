-- A breakpoint times the length is at least -32512 times it, so that one less still fits.
use Rattle.std.proofs.Common.{rules, ◌≡◌, ℕ, ℤ, ◌≤◌, pos, neg_ℤ, ◌-ℤ◌, ◌*ℤ◌, arith, ap, sym, ◌∙◌, to_z, of_z}
use Rattle.std.specs.Prelude.{FitsSigned}
use Rattle.std.specs.Int.{w32}
use Rattle.std.proofs.lemmas.Int.{ints, to_z-of_z}
use Rattle.breakpoints.specs.declared.table.Table.{Table}
use Rattle.breakpoints.specs.Breakpoint.{breakpoint}
use Rattle.breakpoints.proofs.Ascending.{breakpoint_within}
use Rattle.isax_word.proofs.Scaled.{scaled_rises}
use Rattle.lower_bound.specs.Gap.{excess}
use Rattle.lower_bound.proofs.Gaps.{gap_above_at}
use Rattle.lower_bound.proofs.cost.above.Goals as goal

-- one less than a breakpoint times the length fits
less_fits : (t : Table) (l i : ℕ) (z : ℤ) → l ≤ 65536 → 1 ≤ i → i ≤ 255
    → z ≡ pos l *ℤ breakpoint t i
    → FitsSigned w32 z → FitsSigned w32 (to_z w32 (of_z w32 z) -ℤ pos 1)
less_fits t l i z few some last is fits =
    let low
    = scaled_rises l (neg_ℤ (pos 32512)) (breakpoint t i) (breakpoint_within t i some last).0 in
    omega (arith, ints, low, is)

pub overflow_sub-scaled : goal.overflow_sub-scaled
overflow_sub-scaled c =
    less_fits c.args.table c.args.length c.args.end c.scaled.result c.requires.few_values
    c.requires.some
    (omega (arith, c.requires.last, c.if-end-eq256.false)) c.scaled.ensures (search rules)

pub returns-else-end-eq256 : goal.returns-else-end-eq256
returns-else-end-eq256 c =
    let t = c.args.table in
    let l = c.args.length in
    let last : c.args.end ≤ 255 = omega (arith, c.requires.last, c.if-end-eq256.false) in
    let fits : FitsSigned w32 c.scaled.result = search rules in
    let less =
    less_fits t l c.args.end c.scaled.result c.requires.few_values c.requires.some last
    c.scaled.ensures fits in
    let value : to_z w32 (of_z w32 c.args.sum) -ℤ to_z w32
    (of_z w32 (to_z w32 (of_z w32 c.scaled.result) -ℤ pos 1))
    ≡ c.args.sum -ℤ ((pos l *ℤ breakpoint t c.args.end) -ℤ pos 1)
    = ap (λ z. z -ℤ to_z w32 (of_z w32 (to_z w32 (of_z w32 c.scaled.result) -ℤ pos 1)))
    (to_z-of_z w32 c.args.sum c.ranges.sum)
    ∙ ap (λ z. c.args.sum -ℤ z) (to_z-of_z w32 _ less
    ∙ ap (λ z. z -ℤ pos 1) (to_z-of_z w32 c.scaled.result fits ∙ c.scaled.ensures)) in
    c.excess_over.ensures ∙ ap excess value ∙ sym (gap_above_at t l c.args.sum c.args.end last)
