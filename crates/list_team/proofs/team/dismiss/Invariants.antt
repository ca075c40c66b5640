-- The passes so far, and the lists of their workers merged one after another.
use Rattle.std.proofs.Common.{◌≡◌, ◌≤◌, ◌++◌, All, true, map, length, [], vec_capacity, vec_len}
use Rattle.std.specs.Vec.Iter.{into_iter_items}
use Rattle.list_team.specs.Searchers.{merged}
use Rattle.list_team.proofs.team.dismiss.Given as goal

abbrev pub invariant-loop-worker : goal.invariant-loop-worker
invariant-loop-worker l = record {
  whole : l.yielded ++ into_iter_items l.worker-iterator ≡ l.fn.team.items;
  passes : l.passes.items ≡ map (λ w. w.pass) l.yielded;
  ended : All (λ w. w.ended ≡ true) l.yielded;
  room : l.all.k ≡ l.k;
  pairs : l.all.pairs ≡ merged l.k [] l.yielded;
  len : vec_len l.passes ≡ length l.yielded;
  space : length l.fn.team.items ≤ vec_capacity l.passes;
}
