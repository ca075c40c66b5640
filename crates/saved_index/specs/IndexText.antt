-- The text of an index over a collection: what is saved of it, and what can be saved.
use Rattle.std.specs.Prelude.{◌≡◌, ℕ, ◌<◌, ◌≤◌, List, length, map}
use Rattle.std.specs.List.{All}
use Rattle.std.specs.List.Sorted.{IsStrictlyIncreasing}
use Rattle.isax_word.specs.declared.member.Member.{Member}
use Rattle.subtree_build.specs.declared.leaf.TreeLeaf.{TreeLeaf}
use Rattle.subtree_build.specs.declared.settings.Settings.{Settings}
use Rattle.subtree_build.specs.Index.{IndexParts, leaf_at}
use Rattle.subtree_build.specs.Members.{numbers_of}
use Rattle.subtree_build.specs.Outline.{outline}
use Rattle.subtree_build.specs.Tree.{Tree, absent, leaf, split}
use Rattle.saved_index.specs.Saved.{Header, Saved, IsTextOf}
use Rattle.series_core.specs.declared.rows.TheConstants.{MAX_COUNT}

-- the numbers of the members of leaf l
abbrev pub numbers_in_leaf : List TreeLeaf → ℕ → List ℕ
numbers_in_leaf leaves l = numbers_of (leaf_at leaves l).members

-- a tree of leaf numbers with the numbers of each leaf's members in their place
abbrev pub filled : List TreeLeaf → Tree ℕ → Tree (List ℕ)
filled leaves absent = absent
filled leaves (leaf l) = leaf (numbers_in_leaf leaves l)
filled leaves (split segment low high) = split segment (filled leaves low) (filled leaves high)

-- the header of settings, for `count` series
abbrev pub header_for : Settings → ℕ → Header
header_for settings count = record {
  segments = settings.layout.cuts.segments;
  table = settings.layout.table;
  points = settings.layout.cuts.row_length;
  count = count;
  leaf_size = settings.leaf_size;
}

-- what is saved of an index
abbrev pub saved_of : Settings → ℕ → IndexParts → Saved
saved_of settings count ix = record {
  header = header_for settings count;
  roots = ix.roots;
  nodes = map (λ node. filled ix.leaves (outline node)) ix.nodes;
}

-- the bytes are the text of an index of `count` series, built with these settings
abbrev pub IndexText : List ℕ → Settings → ℕ → IndexParts → Type 0
IndexText bytes settings count ix = IsTextOf bytes (saved_of settings count ix)

-- the members of a leaf that can be saved: there are some, they strictly ascend by number, and each is below the count
pub record AreSaved (count : ℕ) (members : List Member) : Type 0 where
  pub some : 1 ≤ length members
  pub ascend : IsStrictlyIncreasing (numbers_of members)
  pub below : All (λ m. m.number < count) members

-- a leaf that can be saved
abbrev pub HasSaved : ℕ → TreeLeaf → Type 0
HasSaved count x = AreSaved count x.members

-- an index that can be saved: it has the settings' number of segments, the count and the leaf size are within their limits, and
-- each leaf holds members of a collection of `count` series
pub record CanSave (settings : Settings) (count : ℕ) (ix : IndexParts) : Type 0 where
  pub segments : ix.segments ≡ settings.layout.cuts.segments
  pub count_limit : count ≤ MAX_COUNT
  pub some_leaf_size : 1 ≤ settings.leaf_size
  pub leaf_size_limit : settings.leaf_size ≤ 65535
  pub leaves : All (HasSaved count) ix.leaves
