-- The queries so far that were chosen.
use Rattle.std.proofs.Common.{◌≤◌, ◌-◌, length, All}
use Rattle.group_answer.specs.Sweeping.{IsChosen}
use Rattle.group_answer.proofs.chosen.choose.Given as goal

abbrev pub invariant-loop-number : goal.invariant-loop-number
invariant-loop-number g l = record {
  few : length l.chosen.items ≤ l.number - l.first;
  chosen : All (IsChosen g.R.Rows.collection l.asked) l.chosen.items;
}
