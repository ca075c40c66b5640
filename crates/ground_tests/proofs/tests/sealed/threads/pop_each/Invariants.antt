use Rattle.sealed_runs.specs.Visits.{IsPass}
use Rattle.ground_tests.proofs.tests.sealed.threads.pop_each.Given as goal

abbrev pub invariant-loop-m : goal.invariant-loop-m
invariant-loop-m l = IsPass l.runs.runs l.pass

abbrev pub invariant-loop-turn : goal.invariant-loop-turn
invariant-loop-turn l = IsPass l.runs.runs l.pass
