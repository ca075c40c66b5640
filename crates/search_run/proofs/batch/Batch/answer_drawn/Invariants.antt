-- What was found so far is right, and so is what is ahead.
use Rattle.group_answer.specs.Asking.{AreAnswers}
use Rattle.search_run.proofs.batch.Batch.answer_drawn.Given as goal

abbrev pub invariant-loop-number : goal.invariant-loop-number
invariant-loop-number g l = record {
  found : AreAnswers g.R.Rows.collection l.self.asked l.found.items;
  ahead : AreAnswers g.R.Rows.collection l.self.asked l.ahead.items;
}
