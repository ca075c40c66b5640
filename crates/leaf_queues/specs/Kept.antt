-- How a queue's fields stand for the plain queue, and what its fields keep.
use Rattle.std.specs.Prelude.{◌+◌, ◌≤◌, length, take, drop, IfSome, vec_capacity}
use Rattle.leaf_queues.specs.declared.queue.Queue.TheInside.{Inside}
use Rattle.leaf_queues.specs.PlainQueue.{PlainQueue}
use Rattle.leaf_queues.specs.Lines.{IsDealt, IsRun, ascending}

-- the plain queue that these fields stand for: the entries behind the taken ones wait, in ascending order
abbrev pub plain : Inside → PlainQueue
plain q = record {
  waiting = ascending (drop q.next q.entries.items);
  taken = take q.next q.entries.items;
  placed = length q.entries.items;
  capacity = q.capacity;
  kept = q.kept;
}

-- the waiting entries begin with a run and may be dealt behind it; there is room for all that may be placed
pub record IsKept (q : Inside) : Type 0 where
  pub inside : q.next + q.run ≤ length q.entries.items
  pub run : IsRun q.run (drop q.next q.entries.items)
  pub dealt : IfSome q.buckets (λ b. IsDealt b q.run (drop q.next q.entries.items))
  pub placed : length q.entries.items ≤ q.capacity
  pub room : q.capacity ≤ vec_capacity q.entries
