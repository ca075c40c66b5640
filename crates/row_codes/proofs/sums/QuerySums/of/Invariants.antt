-- The sum of the values so far, and that of their squares.
use Rattle.std.proofs.Common.{◌≡◌, ◌+◌, ◌*◌, ◌≤◌, take}
use Rattle.std.specs.Prelude.{unsigned_abs}
use Rattle.row_codes.specs.Codes.{value_squares}
use Rattle.row_codes.specs.Kept.{value_total}
use Rattle.row_codes.proofs.sums.QuerySums.of.Given as goal

abbrev pub invariant-loop-i : goal.invariant-loop-i
invariant-loop-i l = record {
  total : l.total ≡ value_total (take l.i l.values);
  squares : l.small + 65536 * l.great ≡ value_squares (take l.i l.values);
  short : unsigned_abs l.total ≤ 32768 * l.i;
  half : l.small ≤ 65535 * l.i;
  few : l.small + 65536 * l.great ≤ 1073741824 * l.i;
}
