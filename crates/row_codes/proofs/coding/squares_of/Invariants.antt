-- The squares of what the codes so far stand for.
use Rattle.std.proofs.Common.{◌≡◌, ◌+◌, ◌*◌, ◌≤◌, take}
use Rattle.row_codes.specs.Codes.{pictured, value_squares}
use Rattle.row_codes.proofs.coding.squares_of.Given as goal

abbrev pub invariant-loop-i : goal.invariant-loop-i
invariant-loop-i l = record {
  squares : l.small + 65536 * l.great ≡ value_squares (take l.i (pictured l.low l.step l.codes));
  half : l.small ≤ 65535 * l.i;
  few : l.small + 65536 * l.great ≤ 1213128900 * l.i;
}
