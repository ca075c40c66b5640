-- The pairs within a radius that the parts of an index hold: of a series, of members, of leaves, of root children.
use Rattle.std.specs.Prelude.{◌≡◌, ℕ, ℤ, ◌+◌, ◌-◌, ◌*◌, ◌/◌, min, List, [], ◌∷◌, length, nat_le, if◌then◌else◌, FitsSigned}
use Rattle.std.specs.List.{All, flat_map, range_with_len}
use mir.Syntax.{w16}
use Rattle.series_core.specs.Collection.{Collection, IsCollection}
use Rattle.series_core.specs.Answer.{pair_of}
use Rattle.series_core.specs.Distance.{squared_distance}
use Rattle.series_core.specs.declared.pair.Pair.{Pair}
use Rattle.segment_sums.specs.Division.{IsDivision}
use Rattle.lower_bound.specs.Bound.{View, IsView, view_of}
use Rattle.isax_word.specs.declared.member.Member.{Member}
use Rattle.subtree_build.specs.declared.node.Node.{Node}
use Rattle.subtree_build.specs.declared.leaf.TreeLeaf.{TreeLeaf}
use Rattle.subtree_build.specs.Fits.{Fits}
use Rattle.subtree_build.specs.Index.{IndexParts, IsIndex, leaf_at}
use Rattle.subtree_build.specs.Members.{series_at}
use Rattle.subtree_build.specs.Outline.{leaf_numbers}
use Rattle.subtree_build.specs.Start.{node_at}

-- what is asked: all series of a collection whose distance to a query is at most a radius
pub record Asked : Type 0 where
  pub collection : Collection
  pub query : List ℤ
  pub radius : ℕ

-- all series of this collection within this radius of this query
abbrev pub ask : Collection → List ℤ → ℕ → Asked
ask c q r = record { collection = c; query = q; radius = r }

-- the pair of series i, as a list of one, where it is within the radius, and else nothing
abbrev pub near_series : Asked → ℕ → List Pair
near_series a i =
    let series = series_at a.collection i in
    if nat_le (squared_distance series a.query) a.radius then pair_of a.query i series ∷ [] else []

-- the pairs of members that are within the radius
abbrev pub near_members : Asked → List Member → List Pair
near_members a members = flat_map (λ m. near_series a m.number) members

-- those of the members of leaf l
abbrev pub near_leaf : Asked → List TreeLeaf → ℕ → List Pair
near_leaf a leaves l = near_members a (leaf_at leaves l).members

-- those of the leaves with these numbers, leaf by leaf
abbrev pub near_leaves : Asked → List TreeLeaf → List ℕ → List Pair
near_leaves a leaves ls = flat_map (near_leaf a leaves) ls

-- those of the leaves below a node
abbrev pub near_below : Asked → IndexParts → Node → List Pair
near_below a ix node = near_leaves a ix.leaves (leaf_numbers node)

-- those of the leaves below root child i
abbrev pub near_root : Asked → IndexParts → ℕ → List Pair
near_root a ix i = near_below a ix (node_at ix i)

-- how many groups of `size` root children in a row there are, where the last may have fewer
abbrev pub group_count : ℕ → ℕ → ℕ
group_count size count = (count + (size - 1)) / size

-- the root children of a group
abbrev pub group_of : ℕ → ℕ → ℕ → List ℕ
group_of size count g = range_with_len (g * size) (min size (count - g * size))

-- those of the root children of a group
abbrev pub near_group : Asked → IndexParts → ℕ → ℕ → List Pair
near_group a ix size g = flat_map (near_root a ix) (group_of size (length ix.roots) g)

-- those of these groups, one after another
abbrev pub near_drawn : Asked → IndexParts → ℕ → List ℕ → List Pair
near_drawn a ix size draws = flat_map (near_group a ix size) draws

-- an index that fits the collection under the layout of a view of the query, all of one length, and values of 16 bits
pub record IsAsked (a : Asked) (ix : IndexParts) (view : View) : Type 0 where
  pub collection : IsCollection a.collection
  pub index : IsIndex ix
  pub fits : Fits a.collection view.layout ix
  pub cuts : IsDivision view.layout.cuts
  pub points : a.collection.points ≡ view.layout.cuts.row_length
  pub query : length a.query ≡ view.layout.cuts.row_length
  pub of_query : view ≡ view_of view.layout a.query
  pub is_view : IsView view
  pub values : All (FitsSigned w16) a.query
