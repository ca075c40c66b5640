-- A node as a plain tree of the numbers of its leaves.
use Rattle.std.specs.Prelude.{ℕ, ◌+◌, List, Option, Some, None, Box}
use Rattle.std.specs.declared.alloc.Global.{Global}
use Rattle.subtree_build.specs.declared.node.Node.{Node, Leaf, Split', Held-Node-Split-1, None', Some'}
use Rattle.subtree_build.specs.Tree.{Tree, absent, leaf, split, leaves_of}

abbrev mutual
  -- the tree of the numbers of a node's leaves
  pub outline : Node → Tree ℕ
  outline (Leaf l) = leaf l
  outline (Split' segment low high) =
      split segment (outline_of_child low) (outline_of_child high)

  -- the same of a child, which is absent where it has no members
  pub outline_of_child : Held-Node-Split-1 → Tree ℕ
  outline_of_child None' = absent
  outline_of_child (Some' p node) = outline node

-- the outline of a child that is kept in a box
abbrev pub child_outline : Option (Box Node Global) → Tree ℕ
child_outline None = absent
child_outline (Some child) = outline child.value

-- the numbers of the leaves below a node, in order
abbrev pub leaf_numbers : Node → List ℕ
leaf_numbers node = leaves_of (outline node)

-- the tree with each leaf number moved up
abbrev pub moved_up : ℕ → Tree ℕ → Tree ℕ
moved_up by absent = absent
moved_up by (leaf l) = leaf (l + by)
moved_up by (split segment low high) = split segment (moved_up by low) (moved_up by high)

-- each leaf of the tree holds an item of this kind
abbrev pub AllLeaves : {A : Type 0} → (A → Type 0) → Tree A → Type 0
AllLeaves P absent = Unit {0}
AllLeaves P (leaf x) = P x
AllLeaves P (split segment low high) = AllLeaves P low × AllLeaves P high
