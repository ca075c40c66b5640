-- The leaves so far.
use Rattle.std.proofs.Common.{◌≡◌, take}
use Rattle.subtree_build.specs.Assembly.{counted_leaves}
use Rattle.subtree_build.proofs.leaf_row.counted_leaves.Given as goal

abbrev pub invariant-loop-i : goal.invariant-loop-i
invariant-loop-i l = l.leaves.items ≡ counted_leaves (take l.i l.words) (take l.i l.counts)
