-- Each cost written so far is that of its symbol.
use Rattle.std.proofs.Common.{ℕ, ◌≡◌, ◌<◌, get_or, length}
use Rattle.lower_bound.specs.Gap.{symbol_cost}
use Rattle.lower_bound.proofs.cost.write_costs.Given as goal

abbrev pub invariant-loop-symbol : goal.invariant-loop-symbol
invariant-loop-symbol l = record {
  whole : length l.costs ≡ 256;
  each : (s : ℕ) → s < l.symbol → get_or l.costs s 0 ≡ symbol_cost l.table l.length l.sum s;
}
