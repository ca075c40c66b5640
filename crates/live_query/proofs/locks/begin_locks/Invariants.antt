-- The locks round the queues so far, and their rows.
use Rattle.std.proofs.Common.{◌≡◌, ◌≤◌, length, vec_capacity, vec_len}
use Rattle.live_query.specs.LockParts.{AreDealt, AreRound}
use Rattle.live_query.proofs.locks.begin_locks.Given as goal

abbrev pub invariant-loop-queue : goal.invariant-loop-queue
invariant-loop-queue l = record {
  can_next : (goal.iterator-loop-queue).can_next l.queue-iterator;
  is_finite : (goal.iterator-loop-queue).is_finite l.queue-iterator;
  len : vec_len l.locks ≡ length l.yielded;
  long : vec_len l.rows ≡ length l.yielded;
  room : length l.fn.queues.items ≤ vec_capacity l.locks;
  space : length l.fn.queues.items ≤ vec_capacity l.rows;
  round : AreRound l.yielded l.callers l.locks.items;
  dealt : AreDealt l.locks.items 0 l.rows.items;
}
