-- What an index holds, and the facts that every index keeps.
use Rattle.std.specs.Prelude.{◌≡◌, ℕ, ◌^◌, ◌<◌, ◌≤◌, List, [], length, IsSome, None, Option, Some, slice_get, slice_index, slice_index_or, true, ◌&&◌, false}
use Rattle.std.specs.List.{All, range_with_len, flat_map}
use Rattle.std.specs.List.Sorted.{IsStrictlyIncreasing}
use Rattle.isax_word.specs.declared.word.Part.{Part}
use Rattle.row_codes.specs.Rows.{Block}
use Rattle.isax_word.specs.Word.{part_at, child_word, one_bit_word}
use Rattle.subtree_build.specs.declared.node.Node.{Node}
use Rattle.subtree_build.specs.declared.leaf.TreeLeaf.{TreeLeaf}
use Rattle.subtree_build.specs.Tree.{Tree, absent, leaf, split, is_absent}
use Rattle.subtree_build.specs.Outline.{outline, leaf_numbers}

-- an index: how many segments its words have, the root numbers and nodes of its root children, its leaves, and, where it has
-- them, for each leaf the means and the codes of its members
pub record IndexParts : Type 0 where
  pub segments : ℕ
  pub roots : List ℕ
  pub nodes : List Node
  pub leaves : List TreeLeaf
  pub means : Option (List (List (List ℕ)))
  pub codes : Option (List (List Block))

-- an index that has means and codes
pub record HasTables (ix : IndexParts) : Type 0 where
  pub means : IsSome ix.means
  pub codes : IsSome ix.codes

-- an index with nothing beside its tree
pub record IsTreeAlone (ix : IndexParts) : Type 0 where
  pub no_means : ix.means ≡ None
  pub no_codes : ix.codes ≡ None

-- the leaf that stands past the end
abbrev pub no_leaf : TreeLeaf
no_leaf = record { word = []; members = [] }

-- leaf number l of these leaves
abbrev pub leaf_at : List TreeLeaf → ℕ → TreeLeaf
leaf_at leaves l = slice_index_or leaves l no_leaf

-- the one-bit word of root child number i
abbrev pub root_word_at : IndexParts → ℕ → List Part
root_word_at ix i = one_bit_word (slice_index ix.roots i) ix.segments

-- a split of a word in a segment that has a bit left, with at least one child
pub record IsSplit (word : List Part) (segment : ℕ) (low high : Tree ℕ) : Type 0 where
  pub used : segment < length word
  pub divisible : (part_at word segment).bits < 8
  pub some_child : (is_absent low && is_absent high) ≡ false

-- a node stands under a word: a leaf has that word in the list of leaves, and the children of a split stand
-- under the word's children
abbrev pub StandsUnder : List TreeLeaf → List Part → Tree ℕ → Type 0
StandsUnder leaves word absent = Unit {0}
StandsUnder leaves word (leaf l) = (l < length leaves) × ((leaf_at leaves l).word ≡ word)
StandsUnder leaves word (split segment low high) =
    IsSplit word segment low high
    × StandsUnder leaves (child_word word segment false) low
    × StandsUnder leaves (child_word word segment true) high

-- 1 to 16 segments; the root numbers strictly ascend, and each has one node, which stands under its one-bit
-- word; the leaves are numbered in order
pub record IsIndex (ix : IndexParts) : Type 0 where
  pub some_segments : 1 ≤ ix.segments
  pub few_segments : ix.segments ≤ 16
  pub roots_ascend : IsStrictlyIncreasing ix.roots
  pub roots_fit : All (λ root. root < 2 ^ ix.segments) ix.roots
  pub few_roots : length ix.roots ≤ 65536
  pub one_node_each : length ix.nodes ≡ length ix.roots
  pub nodes_stand : (i : ℕ) (node : Node) → slice_get ix.nodes i ≡ Some node
      → StandsUnder ix.leaves (root_word_at ix i) (outline node)
  pub few_leaves : length ix.leaves < 2 ^ 32
  pub in_order : flat_map leaf_numbers ix.nodes ≡ range_with_len 0 (length ix.leaves)
