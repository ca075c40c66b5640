use Rattle.std.proofs.Common.{◌≤◌, ◌-◌, ◌≡◌, true, false, length}
use Rattle.std.specs.List.{AllWithin}
use Rattle.series_core.specs.Pairs.{is_before}
use Rattle.series_core.proofs.best.place_of.Given as goal

abbrev pub invariant-loop-low : goal.invariant-loop-low
invariant-loop-low l = record {
  ordered : l.low ≤ l.high;
  within : l.high ≤ length l.pairs;
  smaller : AllWithin (λ q. is_before q l.pair ≡ true) l.pairs 0 l.low;
  others : AllWithin (λ q. is_before q l.pair ≡ false) l.pairs l.high (length l.pairs);
}

abbrev pub decreases-loop-low : goal.decreases-loop-low
decreases-loop-low l = l.high - l.low
