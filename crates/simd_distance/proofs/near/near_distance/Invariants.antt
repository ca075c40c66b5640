-- Where all blocks so far are near, the lanes' sum and the distance of what is left make the whole distance; no sum wraps.
use Rattle.std.proofs.Common.{◌≡◌, ◌+◌, ◌*◌, ◌≤◌, drop}
use Rattle.std.specs.Simd.Lanes.{sum_l}
use Rattle.series_core.specs.Distance.{squared_distance}
use Rattle.simd_distance.proofs.NearLists.{Below}
use Rattle.simd_distance.proofs.near.near_distance.Given as goal

abbrev pub invariant-loop-sixteen : goal.invariant-loop-sixteen
invariant-loop-sixteen l = record {
  whole : Below l.bits → sum_l l.sums + squared_distance (drop (16 * l.sixteen) l.x) (drop (16 * l.sixteen) l.q)
      ≡ squared_distance l.x l.q;
  small : sum_l l.sums ≤ l.sixteen * 17178820624;
}
