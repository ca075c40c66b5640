use Rattle.std.proofs.Common.{◌≡◌, ◌≤◌, length, vec_capacity, vec_len, All}
use Rattle.claim_word.proofs.tests.threads.dismiss.Given as goal

abbrev pub invariant-loop-worker : goal.invariant-loop-worker
invariant-loop-worker l =
    (goal.iterator-loop-worker).can_next l.worker-iterator
    × (goal.iterator-loop-worker).is_finite l.worker-iterator
    × (vec_len l.passes ≡ length l.yielded)
    × All (λ p. p.claims ≡ l.claims) l.passes.items
    × (length l.fn.team.items ≤ vec_capacity l.passes)
