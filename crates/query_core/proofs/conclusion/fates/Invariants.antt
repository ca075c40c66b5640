use Rattle.std.proofs.Common.{◌≡◌, ◌<◌, ◌≤◌, ℕ, Some, drop, length, vec_capacity, vec_len}
use Rattle.std.specs.Prelude.{slice_get}
use Rattle.query_core.specs.Fates.{AreUnqueued, fate_queued, fate_unqueued, leaf_of}
use Rattle.search_machine.specs.Machine.{State}
use Rattle.search_task.specs.Questions.{search_over}
use Rattle.query_core.specs.Teams.{AreShown}
use Rattle.query_core.proofs.conclusion.fates.Given as goal

abbrev pub invariant-loop-leaf : goal.invariant-loop-leaf
invariant-loop-leaf g l = record {
  len : vec_len l.fates ≡ l.leaf;
  room : l.leaves ≤ vec_capacity l.fates;
  each : (n m : ℕ) (s : State) → AreShown l.workers s.workers
      → AreUnqueued (search_over l.search.question l.search.index n m) s l.leaf l.fates.items;
}

abbrev pub invariant-loop-m : goal.invariant-loop-m
invariant-loop-m g l = record {
  within : l.m ≤ length l.lines;
  count : (s : State) → AreShown l.workers s.workers → length l.fates.items ≡ length l.search.index.leaves;
  each : (n q : ℕ) (s : State) → AreShown l.workers s.workers → (k : ℕ) → k < length l.search.index.leaves
      → slice_get l.fates.items k ≡ Some (fate_queued (leaf_of l.start) l.m (drop l.m l.lines) k
      (fate_unqueued (search_over l.search.question l.search.index n q) s k));
}

abbrev pub decreases-loop-m : goal.decreases-loop-m
decreases-loop-m g l = l.m
