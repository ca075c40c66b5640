-- The costs added so far and those of the rest of the word make its bound.
use Rattle.std.proofs.Common.{◌≡◌, ◌+◌, drop}
use Rattle.lower_bound.specs.Bound.{parts_bound, word_bound}
use Rattle.lower_bound.proofs.view.QueryView.bound_word.Given as goal

abbrev pub invariant-loop-j : goal.invariant-loop-j
invariant-loop-j l = l.bound + parts_bound l.self l.j (drop l.j l.word) ≡ word_bound l.self l.word
