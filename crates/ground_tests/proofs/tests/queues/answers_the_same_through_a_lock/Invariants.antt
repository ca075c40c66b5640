use Rattle.std.proofs.Common.{◌≡◌}
use Rattle.turn_lock.specs.Passes.{IsPassOf}
use Rattle.ground_tests.proofs.tests.queues.answers_the_same_through_a_lock.Given as goal

abbrev pub invariant-loop-call : goal.invariant-loop-call
invariant-loop-call g l = IsPassOf l.lock l.pass × (l.pass.number ≡ l.initial.pass.number)
