-- Where an index keeps things: the members of each leaf in the row of all members, and the leaves below each root child.
use Rattle.std.specs.Prelude.{◌≡◌, ℕ, ◌+◌, ◌-◌, ◌*◌, ◌^◌, ◌<◌, ◌≤◌, List, [], ◌∷◌, Option, Some, length, map, option_map, take, drop, slice_get, slice_index}
use Rattle.std.specs.List.{All, range_with_len}
use Rattle.series_core.specs.Collection.{Collection}
use Rattle.mean_bound.specs.Boxes.{Box, box_of, box_of_boxes}
use Rattle.row_codes.specs.Rows.{Block, block_count}
use Rattle.isax_word.specs.declared.layout.Layout.{Layout}
use Rattle.subtree_build.specs.Means.{all_codes, all_means, coded_points}
use Rattle.isax_word.specs.declared.member.Member.{Member}
use Rattle.subtree_build.specs.declared.boxes.Boxes.{Boxes}
use Rattle.subtree_build.specs.declared.leaf.GrownLeaf.{GrownLeaf}
use Rattle.subtree_build.specs.declared.leaf.LeafPlace.{LeafPlace}
use Rattle.subtree_build.specs.declared.leaf.TreeLeaf.{TreeLeaf}
use Rattle.subtree_build.specs.declared.tables.CodeTable.{CodeTable}
use Rattle.subtree_build.specs.declared.tables.MeanTable.{MeanTable}
use Rattle.subtree_build.specs.declared.tables.Tables.{Tables}
use Rattle.subtree_build.specs.declared.node.Node.{Node}
use Rattle.subtree_build.specs.Division.{leaf_with}
use Rattle.subtree_build.specs.Grown.{members_in}
use Rattle.subtree_build.specs.Outline.{leaf_numbers}
use Rattle.subtree_build.specs.Tree.{Tree, leaves_of}

-- the places of leaves whose members lie behind one another, from `first` on
abbrev pub places_from : ℕ → List GrownLeaf → List LeafPlace
places_from first [] = []
places_from first (l ∷ leaves) =
    record { word = l.word; first = first; end = first + l.count } ∷ places_from (first + l.count) leaves

-- the leaf at a place
abbrev pub leaf_seen : List Member → LeafPlace → TreeLeaf
leaf_seen members p = leaf_with p.word (take (p.end - p.first) (drop p.first members))

-- the leaves at places
abbrev pub leaves_seen : List Member → List LeafPlace → List TreeLeaf
leaves_seen members places = map (leaf_seen members) places

-- the means of the members at places
abbrev pub means_seen : List (List ℕ) → List LeafPlace → List (List (List ℕ))
means_seen means places = map (λ p. take (p.end - p.first) (drop p.first means)) places

-- the boxes of the means of the members at places
abbrev pub boxes_seen : List (List ℕ) → List LeafPlace → List Box
boxes_seen means places = map (λ p. box_of (take (p.end - p.first) (drop p.first means))) places

-- group number g of `size` boxes each has the box of them; the last may have fewer
abbrev pub AreGroups : ℕ → List Box → List Box → Type 0
AreGroups size boxes groups = (g : ℕ) → g * size < length boxes
    → slice_get groups g ≡ Some (box_of_boxes (take size (drop (g * size) boxes)))

-- the boxes of the means of the members at places, and those of groups of them
pub record AreBoxes (means : List (List ℕ)) (places : List LeafPlace) (b : Boxes) : Type 0 where
  pub leaves : b.leaves.items ≡ boxes_seen means places
  pub groups : AreGroups 16 b.leaves.items b.groups.items
  pub wide_groups : AreGroups 256 b.leaves.items b.wide_groups.items

-- the codes of the members at places, with so many blocks a member
abbrev pub codes_seen : ℕ → List Block → List LeafPlace → List (List Block)
codes_seen blocks codes places =
    map (λ p. take ((p.end - p.first) * blocks) (drop (p.first * blocks) codes)) places

-- the means of a table for the leaves at places, where there is one
abbrev pub means_beside : Option MeanTable → List LeafPlace → Option (List (List (List ℕ)))
means_beside table places = option_map (λ t. means_seen t.means.items places) table

-- and the codes of one
abbrev pub codes_beside : Option CodeTable → List LeafPlace → Option (List (List Block))
codes_beside table places = option_map (λ t. codes_seen t.blocks t.codes.items places) table

-- a place lies among `count` members
pub record IsPlace (count : ℕ) (p : LeafPlace) : Type 0 where
  pub order : p.first ≤ p.end
  pub inside : p.end ≤ count

-- all of these places do
abbrev pub ArePlaces : List Member → List LeafPlace → Type 0
ArePlaces members places = All (IsPlace (length members)) places

-- the leaves at places lie behind one another in the row of these members, and have all of them
pub record AreAllSeen (members : List Member) (places : List LeafPlace) : Type 0 where
  pub leaves : List GrownLeaf
  pub lie : places ≡ places_from 0 leaves
  pub whole : members_in leaves ≡ length members
  pub few : length members < 2 ^ 32

-- a table of means: those of each member, and the boxes of those at places
pub record IsMeanTable (members : List Member) (places : List LeafPlace) (t : MeanTable) : Type 0 where
  pub means_each : length t.means.items ≡ length members
  pub boxes_are : AreBoxes t.means.items places t.boxes

-- a table of codes: as many blocks for each member
pub record IsCodeTable (members : List Member) (t : CodeTable) : Type 0 where
  pub few_blocks : t.blocks ≤ 256
  pub codes_each : length t.codes.items ≡ length members * t.blocks

-- the tables of members that are series of the collection, and of places among them
pub record AreTablesOf (c : Collection) (layout : Layout) (members : List Member) (places : List LeafPlace) (t : Tables)
    : Type 0 where
  pub means : t.means.means.items ≡ all_means c layout members
  pub boxes : AreBoxes t.means.means.items places t.means.boxes
  pub blocks : t.codes.blocks ≡ block_count (coded_points c)
  pub codes : t.codes.codes.items ≡ all_codes c members

-- the leaves below a node are those from the first up to but not including the end, which are some of these leaves
pub record IsRange (count first end : ℕ) (node : Node) : Type 0 where
  pub order : first ≤ end
  pub inside : end ≤ count
  pub leaves : leaf_numbers node ≡ range_with_len first (end - first)

-- the leaves below node i are those from number i of `firsts` up to but not including the next number
pub record AreRanges (nodes : List Node) (firsts : List ℕ) (leaves : List LeafPlace) : Type 0 where
  pub long : length firsts ≡ length nodes + 1
  pub each : (i : ℕ) (node : Node) → slice_get nodes i ≡ Some node
      → IsRange (length leaves) (slice_index firsts i) (slice_index firsts (i + 1)) node

-- the number of the first leaf of each tree, and behind them that of all leaves, where their leaves are numbered on from
-- `first`
abbrev pub tree_firsts : {A : Type 0} → ℕ → List (Tree A) → List ℕ
tree_firsts first [] = first ∷ []
tree_firsts first (t ∷ trees) = first ∷ tree_firsts (first + length (leaves_of t)) trees
