-- Four times the lanes' sum and the distance of what is left are at most the whole distance; no sum wraps.
use Rattle.std.proofs.Common.{◌+◌, ◌*◌, ◌≤◌, drop}
use Rattle.std.specs.Simd.Lanes.{sum_l}
use Rattle.series_core.specs.Distance.{squared_distance}
use Rattle.simd_distance.proofs.low.low_quarter.Given as goal

abbrev pub invariant-loop-sixteen : goal.invariant-loop-sixteen
invariant-loop-sixteen l = record {
  low : 4 * sum_l l.sums + squared_distance (drop (16 * l.sixteen) l.x) (drop (16 * l.sixteen) l.q)
      ≤ squared_distance l.x l.q;
  small : sum_l l.sums ≤ l.sixteen * 17178820624;
}
