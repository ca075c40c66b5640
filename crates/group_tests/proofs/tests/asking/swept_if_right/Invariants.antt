-- What is ahead is right.
use Rattle.group_answer.specs.Asking.{AreAnswers}
use Rattle.group_tests.proofs.tests.asking.swept_if_right.Given as goal

abbrev pub invariant-loop-i : goal.invariant-loop-i
invariant-loop-i g l = AreAnswers (λ rows. rows) l.asked l.ahead.items
