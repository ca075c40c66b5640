-- The passes so far, and what was made with them.
use Rattle.std.proofs.Common.{◌≡◌, ◌≤◌, ◌++◌, Some, length, map, vec_capacity, vec_len}
use Rattle.std.specs.Vec.Iter.{into_iter_items}
use Rattle.worker_team.proofs.team.dismiss.Given as goal

abbrev pub invariant-loop-worker : goal.invariant-loop-worker
invariant-loop-worker g l = record {
  whole : l.yielded ++ into_iter_items l.worker-iterator ≡ l.fn.team.items;
  passes : l.passes.items ≡ map (λ w. w.pass) l.yielded;
  made : map (λ m. Some m) l.all_made.items ≡ map (λ w. w.made) l.yielded;
  len : vec_len l.passes ≡ length l.yielded;
  long : vec_len l.all_made ≡ length l.yielded;
  room : length l.fn.team.items ≤ vec_capacity l.passes;
  space : length l.fn.team.items ≤ vec_capacity l.all_made;
}
