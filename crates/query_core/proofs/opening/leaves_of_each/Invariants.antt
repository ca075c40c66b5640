use Rattle.std.proofs.Common.{◌≡◌, ◌≤◌, ◌<◌, ◌+◌, ◌/◌, ◌%◌, ℕ, get_or, vec_capacity, vec_len}
use Rattle.list_totals.specs.Totals.{once_below}
use Rattle.query_core.proofs.opening.leaves_of_each.Given as goal

abbrev pub invariant-loop-queue : goal.invariant-loop-queue
invariant-loop-queue l = record {
  len : vec_len l.counts ≡ l.queue;
  room : l.queues ≤ vec_capacity l.counts;
  counted : (m : ℕ) → m < l.queue
      → get_or l.counts.items m 0 ≡ l.leaves / l.queues + once_below m (l.leaves % l.queues);
}
