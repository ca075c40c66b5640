-- The lines so far.
use Rattle.std.proofs.Common.{◌≡◌, ◌≤◌, length, map, take, vec_capacity, vec_len}
use Rattle.search_machine.specs.Outcome.{line_of}
use Rattle.live_query.proofs.lines.queue_lines.Given as goal

abbrev pub invariant-loop-queue : goal.invariant-loop-queue
invariant-loop-queue l = record {
  made : l.lines.items ≡ map line_of (take l.queue-index l.queues);
  len : vec_len l.lines ≡ l.queue-index;
  room : length l.queues ≤ vec_capacity l.lines;
}
