-- The means of the segments so far, then zeros.
use Rattle.std.proofs.Common.{◌≡◌}
use Rattle.segment_sums.proofs.Filled.{filled}
use Rattle.mean_bound.specs.Means.{segment_mean}
use Rattle.mean_bound.proofs.means.of_any.Given as goal

abbrev pub invariant-loop-j : goal.invariant-loop-j
invariant-loop-j l = l.means ≡ filled (segment_mean l.cuts l.row) 0 16 l.j
