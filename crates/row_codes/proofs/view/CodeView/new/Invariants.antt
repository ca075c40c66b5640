-- The sums of the blocks so far stand in front.
use Rattle.std.proofs.Common.{◌≡◌, length, map, take}
use Rattle.std.specs.List.{range_with_len}
use Rattle.row_codes.specs.Kept.{sums_at}
use Rattle.row_codes.proofs.view.CodeView.new.Given as goal

abbrev pub invariant-loop-k : goal.invariant-loop-k
invariant-loop-k l = record {
  long : length l.sums ≡ 256;
  front : take l.k l.sums ≡ map (sums_at l.query) (range_with_len 0 l.k);
}
