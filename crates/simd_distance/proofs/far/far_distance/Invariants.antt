-- The lanes' sum so far and the distance of what is left make the whole distance.
use Rattle.std.proofs.Common.{◌≡◌, ◌+◌, ◌*◌, drop}
use Rattle.std.specs.Simd.Lanes.{sum_l}
use Rattle.series_core.specs.Distance.{squared_distance}
use Rattle.simd_distance.proofs.far.far_distance.Given as goal

abbrev pub invariant-loop-sixteen : goal.invariant-loop-sixteen
invariant-loop-sixteen l =
    sum_l l.sums + squared_distance (drop (16 * l.sixteen) l.x) (drop (16 * l.sixteen) l.q)
    ≡ squared_distance l.x l.q
