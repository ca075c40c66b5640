use Rattle.std.proofs.Common.{◌≡◌, ◌≤◌, length, map, take, vec_capacity, vec_len}
use Rattle.leaf_queues.specs.PlainQueue.{empty_queue}
use Rattle.query_core.proofs.opening.empty_queues.Given as goal

abbrev pub invariant-loop-room : goal.invariant-loop-room
invariant-loop-room l = record {
  made : l.made.items ≡ map empty_queue (take l.room-index l.room-items);
  len : vec_len l.made ≡ l.room-index;
  room : length l.room-items ≤ vec_capacity l.made;
}
