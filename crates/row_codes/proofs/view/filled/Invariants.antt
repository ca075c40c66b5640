-- The values so far, and behind them zeros.
use Rattle.std.proofs.Common.{◌≡◌, ◌-◌, ◌++◌, length, map, take, replicate, pos}
use Rattle.row_codes.proofs.view.filled.Given as goal

abbrev pub invariant-loop-i : goal.invariant-loop-i
invariant-loop-i l = record {
  long : length l.all ≡ 256;
  value : l.all ≡ map (λ x. x) (take l.i l.values) ++ replicate (256 - l.i) (pos 0);
}
