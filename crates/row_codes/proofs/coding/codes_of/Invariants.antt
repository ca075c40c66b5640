-- The codes of the values so far, and behind them zeros.
use Rattle.std.proofs.Common.{◌≡◌, ◌-◌, ◌<◌, ◌++◌, length, map, take, replicate}
use Rattle.std.specs.List.{All}
use Rattle.row_codes.specs.Codes.{code_of}
use Rattle.row_codes.proofs.coding.codes_of.Given as goal

abbrev pub invariant-loop-i : goal.invariant-loop-i
invariant-loop-i l = record {
  long : length l.codes ≡ 256;
  value : l.codes ≡ map (code_of l.low l.step) (take l.i l.values) ++ replicate (256 - l.i) 0;
  small : All (λ c. c < 16) l.codes;
}
