-- Parts that make an index, and the index that they make.
use Rattle.std.specs.Prelude.{◌≡◌, ℕ, ◌+◌, ◌^◌, ◌<◌, ◌≤◌, true, false, List, [], ◌∷◌, ◌++◌, length, map, take, drop, Some, None, slice_get, slice_index}
use Rattle.std.specs.List.{All, range_with_len, flat_map}
use Rattle.std.specs.List.Sorted.{IsStrictlyIncreasing}
use Rattle.list_totals.specs.Totals.{total}
use Rattle.series_core.specs.Collection.{Collection}
use Rattle.isax_word.specs.declared.layout.Layout.{Layout}
use Rattle.isax_word.specs.declared.member.Member.{Member}
use Rattle.isax_word.specs.declared.word.Part.{Part}
use Rattle.isax_word.specs.Word.{child_word, one_bit_word}
use Rattle.subtree_build.specs.declared.leaf.GrownLeaf.{GrownLeaf}
use Rattle.subtree_build.specs.declared.leaf.TreeLeaf.{TreeLeaf}
use Rattle.subtree_build.specs.declared.node.Node.{Node}
use Rattle.subtree_build.specs.Division.{leaf_with}
use Rattle.subtree_build.specs.Grown.{grown_leaf}
use Rattle.subtree_build.specs.Index.{IndexParts, IsSplit}
use Rattle.subtree_build.specs.Means.{leaf_means, leaf_codes}
use Rattle.subtree_build.specs.Outline.{outline, leaf_numbers}
use Rattle.subtree_build.specs.Tree.{Tree, absent, leaf, split, leaves_of}

-- below a node of this word each split is in a segment that has a bit left, and has at least one child
abbrev pub CanStand : List Part → Tree ℕ → Type 0
CanStand word absent = Unit {0}
CanStand word (leaf l) = Unit {0}
CanStand word (split segment low high) =
    IsSplit word segment low high
    × CanStand (child_word word segment false) low
    × CanStand (child_word word segment true) high

-- root numbers of `segments` segments, which strictly ascend
pub record AreRoots (segments : ℕ) (roots : List ℕ) : Type 0 where
  pub ascend : IsStrictlyIncreasing roots
  pub fit : All (λ root. root < 2 ^ segments) roots

-- each node can stand under the one-bit word of its root number
abbrev pub AllStand : ℕ → List ℕ → List Node → Type 0
AllStand segments roots nodes = (i : ℕ) (node : Node) → slice_get nodes i ≡ Some node
    → CanStand (one_bit_word (slice_index roots i) segments) (outline node)

-- root numbers, their nodes and `leaves` leaves make an index: the root numbers strictly ascend and fit, each has one node,
-- each split is in a segment that has a bit left and has a child, and the leaves are numbered in order
pub record MakeIndex (segments : ℕ) (roots : List ℕ) (nodes : List Node) (leaves : ℕ) : Type 0 where
  pub are_roots : AreRoots segments roots
  pub one_node_each : length nodes ≡ length roots
  pub all_stand : AllStand segments roots nodes
  pub in_order : flat_map leaf_numbers nodes ≡ range_with_len 0 leaves

-- an index of these parts, with nothing beside its tree
pub record IsOfParts (count : ℕ) (numbers : List ℕ) (subtrees : List Node) (lists : List (List Member)) (ix : IndexParts)
    : Type 0 where
  pub segments : ix.segments ≡ count
  pub roots : ix.roots ≡ numbers
  pub nodes : ix.nodes ≡ subtrees
  pub members : map (λ x. x.members) ix.leaves ≡ lists
  pub no_means : ix.means ≡ None
  pub no_codes : ix.codes ≡ None

-- the numbers of a tree's leaves are those from `first` on, all of them at most up to `end`
pub record AreNumbered (first end : ℕ) (t : Tree ℕ) : Type 0 where
  pub in_order : leaves_of t ≡ range_with_len first (length (leaves_of t))
  pub inside : first + length (leaves_of t) ≤ end

-- the words of the leaves below a node of this word, in order
abbrev pub leaf_words : List Part → Tree ℕ → List (List Part)
leaf_words word absent = []
leaf_words word (leaf l) = word ∷ []
leaf_words word (split segment low high) =
    leaf_words (child_word word segment false) low ++ leaf_words (child_word word segment true) high

-- the words of the leaves below the nodes of root children, in order
abbrev pub all_words : ℕ → List ℕ → List Node → List (List Part)
all_words segments [] nodes = []
all_words segments (root ∷ roots) [] = []
all_words segments (root ∷ roots) (node ∷ nodes) =
    leaf_words (one_bit_word root segments) (outline node) ++ all_words segments roots nodes

-- leaves of words and lists of members, one of each for each leaf
abbrev pub leaves_with : List (List Part) → List (List Member) → List TreeLeaf
leaves_with [] lists = []
leaves_with (word ∷ words) [] = []
leaves_with (word ∷ words) (members ∷ lists) = leaf_with word members ∷ leaves_with words lists

-- leaves of words and numbers of members, one of each for each leaf
abbrev pub counted_leaves : List (List Part) → List ℕ → List GrownLeaf
counted_leaves [] counts = []
counted_leaves (word ∷ words) [] = []
counted_leaves (word ∷ words) (count ∷ counts) = grown_leaf word count ∷ counted_leaves words counts

-- the members of each leaf, of members in a row and of how many of them each leaf has
abbrev pub cut_lists : List ℕ → List Member → List (List Member)
cut_lists [] members = []
cut_lists (count ∷ counts) members = take count members ∷ cut_lists counts (drop count members)

-- leaves that have so many members each have `members` together
abbrev pub AddUp : List ℕ → ℕ → Type 0
AddUp counts members = total (λ n. n) counts ≡ members

-- the same tree, with the means and the codes of the series of a collection
pub record HasMeansOf (c : Collection) (layout : Layout) (before after : IndexParts) : Type 0 where
  pub segments : after.segments ≡ before.segments
  pub roots : after.roots ≡ before.roots
  pub nodes : after.nodes ≡ before.nodes
  pub leaves : after.leaves ≡ before.leaves
  pub own_means : after.means ≡ Some (map (leaf_means c layout) before.leaves)
  pub own_codes : after.codes ≡ Some (map (leaf_codes c) before.leaves)
