-- The symbols so far are those of the first segments, and zeros stand behind them.
use Rattle.std.proofs.Common.{◌≡◌, map, take}
use Rattle.std.specs.List.{range_with_len}
use Rattle.isax_word.specs.FullWord.{segment_symbol}
use Rattle.isax_word.specs.Padded.{IsKept}
use Rattle.isax_word.proofs.full.Full.one_by_one.Given as goal

abbrev pub invariant-loop-j : goal.invariant-loop-j
invariant-loop-j l = record {
  kept : IsKept 0 l.symbols l.j;
  are : take l.j l.symbols ≡ map (segment_symbol l.layout l.row) (range_with_len 0 l.j);
}
