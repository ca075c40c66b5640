use Rattle.std.proofs.Common.{◌≡◌, ◌≤◌, length, vec_capacity, vec_len, All}
use Rattle.claim_word.specs.Passes.{fresh_pass}
use Rattle.claim_word.proofs.tests.threads.hire.Given as goal

abbrev pub invariant-loop-pass : goal.invariant-loop-pass
invariant-loop-pass l =
    (goal.iterator-loop-pass).can_next l.pass-iterator
    × (goal.iterator-loop-pass).is_finite l.pass-iterator
    × (vec_len l.team ≡ length l.yielded)
    × All (λ w. w.pass ≡ fresh_pass l.claims) l.team.items
    × (length l.fn.passes.items ≤ vec_capacity l.team)
