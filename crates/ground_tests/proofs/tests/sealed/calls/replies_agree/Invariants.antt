use Rattle.std.proofs.Common.{◌≡◌, All, vec_len}
use Rattle.sealed_runs.specs.Visits.{IsPass}
use Rattle.ground_tests.proofs.tests.sealed.calls.replies_agree.Given as goal

abbrev pub invariant-loop-turn : goal.invariant-loop-turn
invariant-loop-turn l =
    All (IsPass l.runs.runs) l.passes.items
    × (vec_len l.passes ≡ vec_len l.fn.passes)
    × (vec_len l.plain ≡ vec_len l.fn.plain)
