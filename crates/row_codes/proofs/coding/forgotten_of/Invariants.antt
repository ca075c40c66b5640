-- What the codes so far forget.
use Rattle.std.proofs.Common.{◌≡◌, ◌*◌, ◌≤◌, take}
use Rattle.series_core.specs.Distance.{squared_distance}
use Rattle.row_codes.specs.Codes.{pictured}
use Rattle.row_codes.proofs.coding.forgotten_of.Given as goal

abbrev pub invariant-loop-i : goal.invariant-loop-i
invariant-loop-i l = record {
  value : l.lost ≡ squared_distance (take l.i l.values) (take l.i (pictured l.low l.step l.codes));
  small : l.lost ≤ 4194304 * l.i;
}
