-- An index that is the tree of a collection, and an index that fits a collection whatever its tree.
use Rattle.std.specs.Prelude.{◌≡◌, ℕ, ℤ, ◌≤◌, ◌↔◌, true, IfSome, List, None, length, map}
use Rattle.series_core.specs.Distance.{squared_distance}
use Rattle.std.specs.List.{All}
use Rattle.list_totals.specs.Totals.{total, times, once_below}
use Rattle.series_core.specs.Collection.{Collection}
use Rattle.isax_word.specs.declared.layout.Layout.{Layout}
use Rattle.isax_word.specs.FullWord.{full_word}
use Rattle.isax_word.specs.Word.{word_contains}
use Rattle.isax_word.specs.declared.member.Member.{Member}
use Rattle.subtree_build.specs.declared.leaf.TreeLeaf.{TreeLeaf}
use Rattle.subtree_build.specs.Tree.{all_numbered}
use Rattle.subtree_build.specs.Members.{series_at, numbers_of}
use Rattle.subtree_build.specs.Division.{roots_of, tree, tree_leaves}
use Rattle.subtree_build.specs.Outline.{outline}
use Rattle.subtree_build.specs.Index.{IndexParts}
use Rattle.subtree_build.specs.Means.{leaf_means, leaf_codes}

-- the index is the tree of the collection: its root children and its leaves in order, numbered from 0
pub record IsTreeOf (c : Collection) (layout : Layout) (leaf_size : ℕ) (ix : IndexParts) : Type 0 where
  pub segments : ix.segments ≡ layout.cuts.segments
  pub roots : ix.roots ≡ roots_of c layout
  pub nodes : map outline ix.nodes ≡ all_numbered 0 (tree c layout leaf_size)
  pub leaves : ix.leaves ≡ tree_leaves c layout leaf_size

-- how often a number is that of a member of the leaf
abbrev pub times_in : ℕ → TreeLeaf → ℕ
times_in i x = times i (numbers_of x.members)

-- a member's full word is that of its series
abbrev pub HasItsWord : Collection → Layout → Member → Type 0
HasItsWord c layout m = m.full ≡ full_word layout (series_at c m.number)

-- each member of a leaf has its series' full word
abbrev pub MembersAreSeries : Collection → Layout → TreeLeaf → Type 0
MembersAreSeries c layout x = All (HasItsWord c layout) x.members

-- the leaf's word contains the full word of each member
abbrev pub WordContainsMembers : TreeLeaf → Type 0
WordContainsMembers x = All (λ m. word_contains x.word m.full ≡ true) x.members

-- the tree of the index fits the collection under a layout: it has the layout's number of segments, each number of a
-- series is that of a member of exactly one leaf, once, no other number is, each member has its series' full
-- word, and its leaf's word contains it
pub record TreeFits (c : Collection) (layout : Layout) (ix : IndexParts) : Type 0 where
  pub segments : ix.segments ≡ layout.cuts.segments
  pub each_once : (i : ℕ) → total (times_in i) ix.leaves ≡ once_below i (length c.series)
  pub own_words : All (MembersAreSeries c layout) ix.leaves
  pub contained : All WordContainsMembers ix.leaves

-- the index fits the collection under a layout: its tree does, and where it has means or codes, those of each leaf are those of
-- its members' series
pub record Fits (c : Collection) (layout : Layout) (ix : IndexParts) : Type 0 where
  pub tree : TreeFits c layout ix
  pub own_means : IfSome ix.means (λ means. means ≡ map (leaf_means c layout) ix.leaves)
  pub own_codes : IfSome ix.codes (λ codes. codes ≡ map (leaf_codes c) ix.leaves)

-- an index fits what the tree of another does
abbrev pub FitsByTree : IndexParts → IndexParts → Type 0
FitsByTree ix jx = (c : Collection) (layout : Layout) → TreeFits c layout ix → Fits c layout jx

-- an index with nothing beside its tree fits exactly where its tree does
abbrev pub BareTreesFit : Type 0
BareTreesFit = (c : Collection) (layout : Layout) (ix : IndexParts) → ix.means ≡ None → ix.codes ≡ None
    → Fits c layout ix ↔ TreeFits c layout ix

-- the distance of a member's series to a query is at least a bound
abbrev pub IsNoNearerThan : ℕ → Collection → List ℤ → Member → Type 0
IsNoNearerThan bound c query m = bound ≤ squared_distance (series_at c m.number) query
