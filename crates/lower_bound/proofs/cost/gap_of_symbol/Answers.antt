-- The gap of a sum within its range is at most 65280 times the length.
use Rattle.std.proofs.Common.{◌≡◌, ◌*◌, ◌≤◌, ◌+◌, arith, to_z, of_z}
use Rattle.std.specs.Int.{w32}
use Rattle.std.proofs.lemmas.Int.{ints, to_z-of_z}
use Rattle.lower_bound.specs.Gap.{gap}
use Rattle.lower_bound.proofs.Gaps.{gap-le}
use Rattle.lower_bound.proofs.cost.gap_of_symbol.Goals as goal
use Rattle.lower_bound.proofs.cost.gap_of_symbol.Goals.{After-above}

-- both gaps together are small
both_small : (c : After-above) → c.below.result + c.above.result ≤ 4278190080
both_small c =
    let sum = to_z w32 (of_z w32 c.args.sum) in
    let here : sum ≡ c.args.sum = to_z-of_z w32 c.args.sum c.ranges.sum in
    let total : gap c.args.table c.args.length sum c.args.symbol (c.args.symbol + 1)
    ≤ 65280 * c.args.length
    = gap-le c.args.table c.args.length sum c.args.symbol (c.args.symbol + 1) c.requires.is_sum.some_values
    (omega arith) (omega (arith, c.requires.eight_bits))
    (omega (arith, ints, here, c.requires.is_sum.not_low))
    (omega (arith, ints, here, c.requires.is_sum.not_high)) in
    omega (arith, total, c.below.ensures, c.above.ensures, c.requires.is_sum.few_values)

pub returns-clause-bound : goal.returns-clause-bound
returns-clause-bound c = omega (arith, both_small c)

pub overflow_cast-result : goal.overflow_cast-result
overflow_cast-result c = omega (arith, both_small c)

pub overflow_add-gap : goal.overflow_add-gap
overflow_add-gap c = omega (arith, both_small c)
