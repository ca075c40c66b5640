-- The queues that came back so far; of each row the passes of the locks behind are left.
use Rattle.std.proofs.Common.{◌≡◌, ◌≤◌, ℕ, ◌++◌, Some, length, vec_capacity, vec_len}
use Rattle.std.specs.Prelude.{slice_get}
use Rattle.std.specs.Vec.Iter.{into_iter_items}
use Rattle.leaf_queues.specs.PlainQueue.{PlainQueue}
use Rattle.turn_lock.specs.Passes.{opening_of}
use Rattle.live_query.specs.LockedQueues.{QueueLock}
use Rattle.live_query.specs.LockParts.{WentBy, calls_in}
use Rattle.live_query.proofs.LockColumns.{LeftFrom}
use Rattle.live_query.proofs.locks.close_locks.Given as goal

abbrev pub invariant-loop-lock : goal.invariant-loop-lock
invariant-loop-lock l = record {
  whole : l.yielded ++ into_iter_items l.lock-iterator ≡ l.fn.locks.items;
  len : vec_len l.queues ≡ length l.yielded;
  room : length l.fn.locks.items ≤ vec_capacity l.queues;
  left : LeftFrom l.fn.rows.items (length l.yielded) l.rows.items;
  went : (m : ℕ) (k : QueueLock) (r : PlainQueue) → slice_get l.yielded m ≡ Some k → slice_get l.queues.items m ≡ Some r
      → WentBy (length l.fn.rows.items) (λ i. calls_in l.fn.rows.items i m) (opening_of k) r;
}
