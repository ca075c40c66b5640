-- A subtree as it grows: its leaves by their words and numbers of members, and the members of all of them in a row.
use Rattle.std.specs.Prelude.{◌≡◌, ℕ, List, [], ◌∷◌, ◌++◌, length, take, drop}
use Rattle.list_totals.specs.Totals.{total}
use Rattle.isax_word.specs.declared.word.Part.{Part}
use Rattle.isax_word.specs.declared.member.Member.{Member}
use Rattle.subtree_build.specs.declared.leaf.GrownLeaf.{GrownLeaf}
use Rattle.subtree_build.specs.declared.leaf.TreeLeaf.{TreeLeaf}
use Rattle.subtree_build.specs.Division.{leaf_with}
use Rattle.subtree_build.specs.Tree.{Tree, leaf, leaves_of, numbered}

-- the leaf of a word and of `count` members
abbrev pub grown_leaf : List Part → ℕ → GrownLeaf
grown_leaf word count = record { word = word; count = count }

-- a leaf was put behind the leaves that there were, and the node is that leaf
pub record IsPut (l : GrownLeaf) (before : List GrownLeaf) (node : Tree ℕ) (after : List GrownLeaf) : Type 0 where
  pub node_is : node ≡ leaf (length before)
  pub behind : after ≡ before ++ l ∷ []

-- how many members leaves have together
abbrev pub members_in : List GrownLeaf → ℕ
members_in leaves = total (λ l. l.count) leaves

-- the leaves with their members, which lie in a row
abbrev pub cut_leaves : List GrownLeaf → List Member → List TreeLeaf
cut_leaves [] members = []
cut_leaves (l ∷ leaves) members =
    leaf_with l.word (take l.count members) ∷ cut_leaves leaves (drop l.count members)

-- A node of a tree was grown behind the leaves that there were: it names its leaves in order, and they have these members,
-- all of them.
pub record IsGrown (t : Tree TreeLeaf) (before : List GrownLeaf) (node : Tree ℕ) (after : List GrownLeaf)
    (members : List Member) : Type 0 where
  pub node_is : node ≡ numbered (length before) t
  pub grown : List GrownLeaf
  pub behind : after ≡ before ++ grown
  pub leaves_are : cut_leaves grown members ≡ leaves_of t
  pub whole : members_in grown ≡ length members
