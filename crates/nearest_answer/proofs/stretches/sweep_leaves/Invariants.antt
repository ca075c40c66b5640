-- The leaves so far were scanned.
use Rattle.std.proofs.Common.{◌≡◌, ◌-◌, ◌*◌}
use Rattle.std.specs.List.{flat_map, range_with_len}
use Rattle.search_task.specs.Questions.{leaf_series}
use Rattle.search_task.specs.Scanning.{AreScanned}
use Rattle.nearest_answer.proofs.stretches.sweep_leaves.Given as goal

abbrev pub invariant-loop-leaf : goal.invariant-loop-leaf
invariant-loop-leaf g l = record {
  k : l.list.k ≡ l.fn.search.question.k;
  pairs : let first = l.fn.number * 256 in
      AreScanned l.fn.search.question l.fn.limit
      (flat_map (leaf_series l.fn.search.index) (range_with_len first (l.leaf - first))) l.fn.list.pairs l.list.pairs;
}
