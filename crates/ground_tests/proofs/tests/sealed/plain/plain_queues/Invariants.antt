use Rattle.std.proofs.Common.{◌≡◌, ◌≤◌, vec_len, vec_capacity}
use Rattle.ground_tests.proofs.tests.sealed.plain.plain_queues.Given as goal

abbrev pub invariant-loop-m : goal.invariant-loop-m
invariant-loop-m l = (vec_len l.plain ≡ l.m) × (l.queues ≤ vec_capacity l.plain)
