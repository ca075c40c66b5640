-- The workers and the passes so far.
use Rattle.std.proofs.Common.{◌≡◌, ◌≤◌, ◌++◌, List, All, length, map, vec_capacity, vec_len}
use Rattle.std.specs.Vec.Iter.{into_iter_items}
use Rattle.live_query.specs.LockedQueues.{AreOwn, QueueLock}
use Rattle.live_query.specs.LockParts.{Row}
use Rattle.live_query.proofs.locked_team.dismiss.Given as goal

abbrev pub invariant-loop-searcher : goal.invariant-loop-searcher
invariant-loop-searcher g l = record {
  whole : l.yielded ++ into_iter_items l.searcher-iterator ≡ l.fn.team.items;
  workers : l.workers.items ≡ map (λ c. c.worker) l.yielded;
  passes : map (λ (row : Row). row.items) l.rows.items ≡ map (λ c. c.hand.queues.passes) l.yielded;
  len : vec_len l.rows ≡ length l.yielded;
  long : vec_len l.workers ≡ length l.yielded;
  room : length l.fn.team.items ≤ vec_capacity l.rows;
  space : length l.fn.team.items ≤ vec_capacity l.workers;
  own : (locks : List QueueLock) → All (λ c. c.hand.queues.locks ≡ locks) l.fn.team.items
      → All (λ (row : Row). AreOwn locks row.items) l.rows.items;
}
