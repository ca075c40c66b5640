-- After each round half as many places are left to search.
use Rattle.std.proofs.Common.{◌-◌, ◌^◌}
use Rattle.isax_word.proofs.Symbols.{Narrowed}
use Rattle.isax_word.proofs.symbol.bent_symbol.Given as goal

abbrev pub invariant-loop-round : goal.invariant-loop-round
invariant-loop-round l = Narrowed 1 l.mean l.symbol (2 ^ (8 - l.round))
