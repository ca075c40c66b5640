-- The sum so far and the distance of what is left make the whole distance, and each place adds at
-- most 65535 * 65535.
use Rattle.std.proofs.Common.{◌≡◌, ◌+◌, ◌*◌, ◌≤◌, drop}
use Rattle.series_core.specs.Distance.{squared_distance}
use Rattle.simd_distance.proofs.plain.distance.Given as goal

abbrev pub invariant-loop-i : goal.invariant-loop-i
invariant-loop-i l = record {
  whole : l.sum + squared_distance (drop l.i l.x) (drop l.i l.q) ≡ squared_distance l.x l.q;
  small : l.sum ≤ l.i * 4294836225;
}
