-- The words of the series so far.
use Rattle.std.proofs.Common.{◌≡◌}
use Rattle.saved_index.specs.Membership.{words_between}
use Rattle.saved_index.proofs.words.one_list.Given as goal

abbrev pub invariant-loop-number : goal.invariant-loop-number
invariant-loop-number g l = l.items.items ≡ words_between (g.R.Rows.collection l.rows) l.layout l.from l.number
