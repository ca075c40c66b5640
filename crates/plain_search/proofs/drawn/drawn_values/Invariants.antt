-- As many values were drawn as there were turns.
use Rattle.std.proofs.Common.{◌≡◌, vec_len}
use Rattle.plain_search.proofs.drawn.drawn_values.Given as goal

abbrev pub invariant-loop-value : goal.invariant-loop-value
invariant-loop-value l = vec_len l.values ≡ l._value
