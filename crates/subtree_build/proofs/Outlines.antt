-- What is known of the outlines of nodes: none of them is absent (`present`), and a split's has those of its children
-- (`outline_of_split`).
use Rattle.std.proofs.Common.{◌≡◌, false, refl}
use Rattle.std.specs.Prelude.{ℕ, Option, Some, None, Box}
use Rattle.std.specs.declared.alloc.Global.{Global}
use Rattle.subtree_build.specs.declared.node.Node.{Node, Leaf, Split'}
use Rattle.subtree_build.specs.declared.node.Node.TheViews.{Split}
use Rattle.subtree_build.specs.Tree.{split, is_absent}
use Rattle.subtree_build.specs.Outline.{outline, child_outline}

-- a node is not absent
pub present : (node : Node) → is_absent (outline node) ≡ false
present (Leaf l) = refl
present (Split' segment low high) = refl

-- a split has its children's outlines
pub outline_of_split : (j : ℕ) (low high : Option (Box Node Global))
    → outline (Split j low high) ≡ split j (child_outline low) (child_outline high)
outline_of_split j None None = refl
outline_of_split j None (Some high) = refl
outline_of_split j (Some low) None = refl
outline_of_split j (Some low) (Some high) = refl
