use Rattle.std.proofs.Common.{◌≡◌, take}
use Rattle.series_core.specs.Pairs.{smallest}
use Rattle.query_core.specs.Teams.{all_lists}
use Rattle.query_core.proofs.conclusion.merged.Given as goal

abbrev pub invariant-loop-worker : goal.invariant-loop-worker
invariant-loop-worker g l =
    l.pairs.items ≡ smallest l.k (all_lists (take l.worker-index l.workers))
