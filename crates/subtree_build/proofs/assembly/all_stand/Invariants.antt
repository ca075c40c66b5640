-- The nodes so far can stand.
use Rattle.std.proofs.Common.{◌≡◌, ℕ, ◌<◌}
use Rattle.std.specs.Prelude.{Some, slice_get, slice_index}
use Rattle.isax_word.specs.Word.{one_bit_word}
use Rattle.subtree_build.specs.declared.node.Node.{Node}
use Rattle.subtree_build.specs.Assembly.{CanStand}
use Rattle.subtree_build.specs.Outline.{outline}
use Rattle.subtree_build.proofs.assembly.all_stand.Given as goal

abbrev pub invariant-loop-i : goal.invariant-loop-i
invariant-loop-i l = (k : ℕ) (node : Node) → k < l.i → slice_get l.nodes k ≡ Some node
    → CanStand (one_bit_word (slice_index l.roots k) l.segments) (outline node)
