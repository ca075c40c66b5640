-- The lines so far.
use Rattle.std.proofs.Common.{◌≡◌, ◌≤◌, map, take, vec_capacity, vec_len}
use Rattle.live_query.specs.Marked.{line_of_run}
use Rattle.live_query.proofs.lines.lines.Given as goal

abbrev pub invariant-loop-m : goal.invariant-loop-m
invariant-loop-m l = record {
  made : l.lines.items ≡ map line_of_run (take l.m l.closed);
  len : vec_len l.lines ≡ l.m;
  room : l.queues ≤ vec_capacity l.lines;
}
