-- The members so far have their words, and those behind them are as they were.
use Rattle.std.proofs.Common.{◌≡◌, ◌++◌, map, take, drop}
use Rattle.subtree_build.specs.Members.{with_own_word}
use Rattle.saved_index.proofs.words.give_words_in_turn.Given as goal

abbrev pub invariant-loop-i : goal.invariant-loop-i
invariant-loop-i g l =
    l.members ≡ map (with_own_word (g.R.Rows.collection l.rows) l.layout) (take l.i l.fn.members) ++ drop l.i l.fn.members
