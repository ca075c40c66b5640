-- The sum so far and the sum of the rest make the whole sum, and each value adds at most 2^15 to
-- its size.
use Rattle.std.proofs.Common.{◌≡◌, ◌*◌, drop, pos, ◌+ℤ◌, neg_ℤ, ◌≤ℤ◌}
use Rattle.segment_sums.specs.Sum.{signed_sum}
use Rattle.segment_sums.proofs.cuts.sum_of.Given as goal

abbrev pub invariant-loop-value : goal.invariant-loop-value
invariant-loop-value l = record {
  whole : l.sum +ℤ signed_sum (drop l.value-index l.values) ≡ signed_sum l.values;
  not_low : neg_ℤ (pos (32768 * l.value-index)) ≤ℤ l.sum;
  not_high : l.sum ≤ℤ pos (32767 * l.value-index);
}
