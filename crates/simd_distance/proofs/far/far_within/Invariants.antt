-- The lower bound so far and the distance of what is left are at most the whole distance.
use Rattle.std.proofs.Common.{◌+◌, ◌*◌, ◌≤◌, drop}
use Rattle.series_core.specs.Distance.{squared_distance}
use Rattle.simd_distance.proofs.far.far_within.Given as goal

abbrev pub invariant-loop-block : goal.invariant-loop-block
invariant-loop-block l =
    l.low + squared_distance (drop (l.block * 64) l.x) (drop (l.block * 64) l.q) ≤ squared_distance l.x l.q
