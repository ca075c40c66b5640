-- The codes of the blocks so far stand in front of those that are left.
use Rattle.std.proofs.Common.{◌≡◌, ◌-◌, ◌*◌, ◌≤◌, ◌++◌, drop, length, take}
use Rattle.row_codes.specs.Rows.{block_count, blocks_of, row_codes}
use Rattle.row_codes.proofs.block.code_row.Given as goal

abbrev pub invariant-loop-k : goal.invariant-loop-k
invariant-loop-k l = record {
  whole : take l.k l.codes ++ blocks_of (block_count (length l.row) - l.k) l.before (drop (256 * l.k) l.row) ≡ row_codes l.row;
  small : l.before ≤ 256 * l.k * 4194304;
}
