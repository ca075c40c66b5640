use Rattle.std.proofs.Common.{◌≡◌, take}
use Rattle.window_rows.specs.Choice.{chosen_apart}
use Rattle.window_rows.proofs.choosing.choose.Given as goal

-- what is chosen is the choice among the pairs so far
abbrev pub invariant-loop-pair : goal.invariant-loop-pair
invariant-loop-pair l = l.items.items ≡ chosen_apart l.apart (take l.pair-index l.pairs) l.k
