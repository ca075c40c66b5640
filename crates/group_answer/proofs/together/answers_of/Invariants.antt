-- The answers of the last fours, and those that are left.
use Rattle.std.proofs.Common.{◌≤◌, ◌+◌, ◌*◌, length, All}
use Rattle.group_answer.specs.Asking.{AreAnswers}
use Rattle.group_answer.specs.Sweeping.{AreSwept, members_of}
use Rattle.group_answer.proofs.together.answers_of.Given as goal

abbrev pub invariant-loop-four : goal.invariant-loop-four
invariant-loop-four g l = record {
  few : length l.found.items + 4 * length l.fours.items ≤ 4 * length l.fn.fours.items;
  left : All (AreSwept g.R.Rows.collection l.asked (length (members_of l.asked.index.now))) l.fours.items;
  right : AreAnswers g.R.Rows.collection l.asked l.found.items;
}

abbrev pub decreases-loop-four : goal.decreases-loop-four
decreases-loop-four g l = length l.fours.items
