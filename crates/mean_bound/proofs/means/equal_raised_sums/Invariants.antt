-- The raised sums of the segments so far, then zeros; and none of them is too high.
use Rattle.std.proofs.Common.{◌≡◌}
use Rattle.segment_sums.proofs.Filled.{filled}
use Rattle.mean_bound.specs.Means.{raised_sum, NoRaisedSumAbove}
use Rattle.mean_bound.proofs.means.equal_raised_sums.Given as goal

abbrev pub invariant-loop-j : goal.invariant-loop-j
invariant-loop-j g l = record {
  sums : l.raised ≡ filled (raised_sum l.cuts l.row) 0 16 l.j;
  limit : NoRaisedSumAbove l.cuts l.row l.j;
}
