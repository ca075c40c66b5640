use Rattle.std.proofs.Common.{◌≡◌}
use Rattle.turn_lock.specs.Passes.{IsPassOf}
use Rattle.ground_tests.proofs.tests.locks.add_often.Given as goal

abbrev pub invariant-loop : goal.invariant-loop
invariant-loop g l = IsPassOf l.lock l.pass × (l.pass.number ≡ l.initial.pass.number)
