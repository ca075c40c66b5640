-- The fours so far, which have met nothing.
use Rattle.std.proofs.Common.{◌≡◌, length, All}
use Rattle.group_answer.specs.Sweeping.{AreSwept}
use Rattle.group_answer.proofs.together.fours_of.Given as goal

abbrev pub invariant-loop-i : goal.invariant-loop-i
invariant-loop-i g l = record {
  count : length l.fours.items ≡ l.i;
  swept : All (AreSwept g.R.Rows.collection l.asked 0) l.fours.items;
}
