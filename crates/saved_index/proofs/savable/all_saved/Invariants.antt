-- The leaves so far can be saved.
use Rattle.std.proofs.Common.{ℕ, ◌<◌, get_or}
use Rattle.subtree_build.specs.declared.leaf.TreeLeaf.{TreeLeaf}
use Rattle.saved_index.specs.IndexText.{HasSaved}
use Rattle.saved_index.proofs.savable.all_saved.Given as goal

abbrev pub invariant-loop-l : goal.invariant-loop-l
invariant-loop-l l = (k : ℕ) (d : TreeLeaf) → k < l.l → HasSaved l.count (get_or l.index.leaves k d)
