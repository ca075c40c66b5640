-- One step of the sum, and its bounds.
use Rattle.std.proofs.Common.{◌≡◌, ◌+◌, pos, ◌+ℤ◌, arith, drop, get_or}
use Rattle.std.proofs.lemmas.Int.{ints}
use Rattle.std.proofs.lemmas.List.{at_drop_more}
use Rattle.segment_sums.specs.Sum.{signed_sum}
use Rattle.segment_sums.proofs.cuts.sum_of.Goals as goal

pub loop-value-preserved : goal.loop-value-preserved
loop-value-preserved c =
    let values = c.args.values.now in
    let i = c.loop-value.value-index in
    let rest : signed_sum (drop i values)
    ≡ get_or values i (pos 0) +ℤ signed_sum (drop (i + 1) values)
    = at_drop_more signed_sum values i (pos 0) (omega arith) in
    record {
      whole = omega (arith, ints);
      not_low = omega (arith, ints);
      not_high = omega (arith, ints);
    }
