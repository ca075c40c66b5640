-- The words so far.
use Rattle.std.proofs.Common.{◌≡◌, length, map, take}
use Rattle.std.specs.List.{range_with_len}
use Rattle.row_codes.specs.Codes.{word_of}
use Rattle.row_codes.proofs.coding.packed.Given as goal

abbrev pub invariant-loop-j : goal.invariant-loop-j
invariant-loop-j l = record {
  long : length l.words ≡ 64;
  front : take l.j l.words ≡ map (word_of l.codes) (range_with_len 0 l.j);
}
