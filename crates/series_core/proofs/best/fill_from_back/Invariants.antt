use Rattle.std.proofs.Common.{◌+◌, ◌++◌, take}
use Rattle.series_core.specs.Pairs.{ascending}
use Rattle.series_core.proofs.Joining.{IsFilled}
use Rattle.series_core.proofs.best.fill_from_back.Given as goal

abbrev pub invariant-loop-count : goal.invariant-loop-count
invariant-loop-count l = IsFilled l.others l.count l.pairs l.left (ascending (l.others ++ take l.held l.fn.pairs))

abbrev pub decreases-loop-count : goal.decreases-loop-count
decreases-loop-count l = l.left + l.count
