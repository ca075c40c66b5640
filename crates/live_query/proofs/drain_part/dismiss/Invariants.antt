-- The workers and the passes so far.
use Rattle.std.proofs.Common.{◌≡◌, ◌≤◌, ◌++◌, List, All, length, map, vec_capacity, vec_len}
use Rattle.std.specs.Vec.Iter.{into_iter_items}
use Rattle.sealed_runs.specs.Entries.{Run}
use Rattle.sealed_runs.specs.Visits.{IsPass}
use Rattle.live_query.proofs.drain_part.dismiss.Given as goal

abbrev pub invariant-loop-searcher : goal.invariant-loop-searcher
invariant-loop-searcher g l = record {
  whole : l.yielded ++ into_iter_items l.searcher-iterator ≡ l.fn.team.items;
  workers : l.workers.items ≡ map (λ c. c.worker) l.yielded;
  passes : l.passes.items ≡ map (λ c. c.hand.queues.visits) l.yielded;
  len : vec_len l.passes ≡ length l.yielded;
  long : vec_len l.workers ≡ length l.yielded;
  room : length l.fn.team.items ≤ vec_capacity l.passes;
  space : length l.fn.team.items ≤ vec_capacity l.workers;
  own : (runs : List Run) → All (λ c. c.hand.queues.runs ≡ runs) l.fn.team.items → All (IsPass runs) l.passes.items;
}
