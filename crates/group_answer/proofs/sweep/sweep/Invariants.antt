-- All fours have met the members before this place.
use Rattle.std.proofs.Common.{◌≤◌, ◌-◌, length, All}
use Rattle.group_answer.specs.Sweeping.{AreSwept, members_of}
use Rattle.group_answer.proofs.sweep.sweep.Given as goal

abbrev pub invariant-loop-from : goal.invariant-loop-from
invariant-loop-from g l = record {
  within : l.from ≤ length (members_of l.asked.index.now);
  swept : All (AreSwept g.R.Rows.collection l.asked l.from) l.fours;
}

abbrev pub decreases-loop-from : goal.decreases-loop-from
decreases-loop-from g l = l.count - l.from
