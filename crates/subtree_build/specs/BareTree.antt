-- A tree but for the tables beside its members.
use Rattle.std.specs.Prelude.{◌<◌, Option, None, IfSome, length}
use Rattle.std.specs.List.{All}
use Rattle.series_core.specs.Collection.{Collection}
use Rattle.subtree_build.specs.declared.bare_tree.BareTree.{BareTree}
use Rattle.subtree_build.specs.declared.settings.Settings.{Settings}
use Rattle.subtree_build.specs.declared.tables.MeanTable.{MeanTable}
use Rattle.subtree_build.specs.declared.tables.CodeTable.{CodeTable}
use Rattle.subtree_build.specs.Fits.{IsTreeOf}
use Rattle.subtree_build.specs.Index.{IndexParts, IsIndex}
use Rattle.subtree_build.specs.Places.{leaves_seen, means_beside, codes_beside, AreAllSeen, ArePlaces, AreRanges, IsCodeTable, IsMeanTable}

-- what is seen of a tree with what stands beside it
abbrev pub parts_with : BareTree → Option MeanTable → Option CodeTable → IndexParts
parts_with t means codes = record {
  segments = t.segments;
  roots = t.roots.items;
  nodes = t.nodes.items;
  leaves = leaves_seen t.members.items t.leaves.items;
  means = means_beside means t.leaves.items;
  codes = codes_beside codes t.leaves.items;
}

-- what is seen of a tree with nothing beside it
abbrev pub bare_parts : BareTree → IndexParts
bare_parts t = parts_with t None None

-- it makes an index, and each thing lies at its place
pub record IsBare (t : BareTree) : Type 0 where
  pub is_index : IsIndex (bare_parts t)
  pub places : ArePlaces t.members.items t.leaves.items
  pub ranges : AreRanges t.nodes.items t.firsts.items t.leaves.items
  pub seen : AreAllSeen t.members.items t.leaves.items

-- what stands beside it are tables of its members
pub record AreBeside (t : BareTree) (means : Option MeanTable) (codes : Option CodeTable) : Type 0 where
  pub means_are : IfSome means (IsMeanTable t.members.items t.leaves.items)
  pub codes_are : IfSome codes (IsCodeTable t.members.items)

-- it is the tree of the collection
abbrev pub IsBareTreeOf : Collection → Settings → BareTree → Type 0
IsBareTreeOf c settings t = IsTreeOf c settings.layout settings.leaf_size (bare_parts t)

-- each of its members is a series of the collection
abbrev pub HasSeries : Collection → BareTree → Type 0
HasSeries c t = All (λ m. m.number < length c.series) t.members.items

-- it is the tree of the collection, each thing lies at its place, and its members are series of the collection
pub record IsTreeBuilt (c : Collection) (settings : Settings) (t : BareTree) : Type 0 where
  pub tree : IsBareTreeOf c settings t
  pub bare : IsBare t
  pub series : HasSeries c t
