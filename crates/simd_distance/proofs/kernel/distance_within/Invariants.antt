-- The sum so far and the distance of what is left make the whole distance, and the sum is not above the limit.
use Rattle.std.proofs.Common.{◌≡◌, ◌+◌, ◌*◌, ◌≤◌, drop}
use Rattle.series_core.specs.Distance.{squared_distance}
use Rattle.simd_distance.proofs.kernel.distance_within.Given as goal

abbrev pub invariant-loop-block : goal.invariant-loop-block
invariant-loop-block l = record {
  whole : l.sum + squared_distance (drop (32 + l.block * 64) l.x) (drop (32 + l.block * 64) l.q)
      ≡ squared_distance l.x l.q;
  small : l.sum ≤ l.limit;
}
