-- The answers to the queries so far, and what is ahead.
use Rattle.std.proofs.Common.{◌≡◌, ◌-◌, map}
use Rattle.std.specs.List.{range_with_len}
use Rattle.group_answer.specs.Asking.{AreAnswers, answer_to}
use Rattle.group_answer.proofs.in_order.answers.Given as goal

abbrev pub invariant-loop-i : goal.invariant-loop-i
invariant-loop-i g l = record {
  all : l.all.items ≡ map (answer_to g.R.Rows.collection l.asked) (range_with_len l.first (l.i - l.first));
  ahead : AreAnswers g.R.Rows.collection l.asked l.ahead.items;
}
