-- One leaf more is scanned.
use Rattle.std.proofs.Common.{◌≡◌, ◌-◌, ◌*◌, ℕ, List, length, refl, subst, arith}
use Rattle.std.specs.List.{flat_map, range_with_len}
use Rattle.search_task.specs.Questions.{leaf_series}
use Rattle.search_task.specs.Scanning.{AreScanned}
use Rattle.nearest_answer.proofs.ItemsScanned.{all_items, item_scanned, none_yet}
use Rattle.nearest_answer.proofs.stretches.sweep_leaves.Goals as goal

pub loop-leaf-init : goal.loop-leaf-init
loop-leaf-init g c =
    let s = c.args.search.now in
    let first = c.args.number * 256 in
    let none : 0 ≡ first - first = omega arith in
    record {
      k = c.requires.k;
      pairs = subst (λ (n : ℕ). AreScanned s.question c.args.limit (flat_map (leaf_series s.index) (range_with_len first n))
          c.args.list.now.pairs c.args.list.now.pairs) none
          (none_yet s.question c.args.limit c.args.list.now c.pairs-held.ensures.sound c.requires.k);
    }

pub loop-leaf-preserved : goal.loop-leaf-preserved
loop-leaf-preserved g c =
    let s = c.args.search.now in
    record {
      k = c.sweep_leaf.ensures.k;
      pairs = item_scanned s.question c.args.limit (leaf_series s.index) (c.args.number * 256) c.loop-leaf.leaf c.args.list.now.pairs
          c.loop-leaf.list.pairs c.sweep_leaf.new.list.pairs (omega arith) c.loop-leaf.invariant.pairs
          c.sweep_leaf.ensures.pairs;
    }

pub returns-clause-pairs : goal.returns-clause-pairs
returns-clause-pairs g c =
    let s = c.args.search.now in
    let first = c.args.number * 256 in
    subst (λ (is : List ℕ). AreScanned s.question c.args.limit (flat_map (leaf_series s.index) is)
    c.args.list.now.pairs c.loop-leaf.list.pairs)
    (all_items 256 (length s.index.leaves) c.args.number first c.loop-leaf.leaf refl (omega arith))
    c.loop-leaf.invariant.pairs
