-- The least and the greatest means of the segments so far, then zeros.
use Rattle.std.proofs.Common.{◌≡◌}
use Rattle.segment_sums.proofs.Filled.{filled}
use Rattle.mean_bound.specs.MeanBound.{low_mean, high_mean}
use Rattle.mean_bound.proofs.view.MeanView.new.Given as goal

abbrev pub invariant-loop-j : goal.invariant-loop-j
invariant-loop-j l = record {
  lows : l.lows ≡ filled (low_mean l.cuts l.query) 0 16 l.j;
  highs : l.highs ≡ filled (high_mean l.cuts l.query) 0 16 l.j;
}
