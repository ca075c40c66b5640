-- The means of members and the codes of their rows, member by member and leaf by leaf.
use Rattle.std.specs.Prelude.{ℕ, ℤ, ◌≡◌, ◌+◌, ◌*◌, ◌/◌, ◌^◌, ◌<◌, ◌≤◌, All, List, [], Option, Some, None, cond, length, ltb, map, min, slice_index_or, take}
use Rattle.std.specs.List.{flat_map}
use Rattle.series_core.specs.Collection.{Collection}
use Rattle.series_core.specs.declared.rows.TheConstants.{MAX_LENGTH, MAX_VALUES}
use Rattle.isax_word.specs.declared.layout.Layout.{Layout}
use Rattle.isax_word.specs.declared.member.Member.{Member}
use Rattle.mean_bound.specs.Means.{row_means}
use Rattle.row_codes.specs.Rows.{Block, block_count, row_codes}
use Rattle.subtree_build.specs.declared.leaf.TreeLeaf.{TreeLeaf}
use Rattle.subtree_build.specs.Members.{series_at}

-- the means of a member's series
abbrev pub means_of : Collection → Layout → Member → List ℕ
means_of c layout m = row_means layout.cuts (series_at c m.number)

-- the means of members, one after another
abbrev pub all_means : Collection → Layout → List Member → List (List ℕ)
all_means c layout members = map (means_of c layout) members

-- the means of a leaf's members
abbrev pub leaf_means : Collection → Layout → TreeLeaf → List (List ℕ)
leaf_means c layout x = all_means c layout x.members

-- the means that stand for leaf l: none where there are none of any leaf
abbrev pub means_at : Option (List (List (List ℕ))) → ℕ → List (List ℕ)
means_at None l = []
means_at (Some means) l = slice_index_or means l []

-- how many values of a series of n are coded, the first ones: those of each whole block of 256, and those behind the last of these where
-- they fill seven eighths of one block more
abbrev pub coded_values : ℕ → ℕ
coded_values n = min n (256 * ((n + 32) / 256))

-- the same of a series of a collection: none where that has more values than a file may hold, since it is of windows that overlap
abbrev pub coded_points : Collection → ℕ
coded_points c = cond (ltb MAX_VALUES (length c.series * c.points)) 0 (coded_values c.points)

-- the codes of a member's series: of those of its values that are coded
abbrev pub codes_of_member : Collection → Member → List Block
codes_of_member c m = row_codes (take (coded_points c) (series_at c m.number))

-- the codes of members, one after another
abbrev pub all_codes : Collection → List Member → List Block
all_codes c members = flat_map (codes_of_member c) members

-- the codes of a leaf's members
abbrev pub leaf_codes : Collection → TreeLeaf → List Block
leaf_codes c x = all_codes c x.members

-- the codes that stand for leaf l: none where there are none of any leaf
abbrev pub codes_at : Option (List (List Block)) → ℕ → List Block
codes_at None l = []
codes_at (Some codes) l = slice_index_or codes l []

-- the values of members' series, one series after another
abbrev pub all_values : Collection → List Member → List ℤ
all_values c members = flat_map (λ m. series_at c m.number) members

-- members, each a series of a collection whose length is that of the layout, and that many places for their means, and for the codes
-- that rows have of which so many values are coded
pub record HavePlaces (c : Collection) (layout : Layout) (coded : ℕ) (members : List Member) (means : List (List ℕ))
    (codes : List Block) : Type 0 where
  pub row_length : layout.cuts.row_length ≡ c.points
  pub coded_length : coded ≡ coded_points c
  pub short : coded ≤ MAX_LENGTH
  pub series : All (λ m. m.number < length c.series) members
  pub few : length members < 2 ^ 32
  pub means_places : length means ≡ length members
  pub codes_places : length codes ≡ length members * block_count coded

-- the means and the codes of members stand at their places
pub record AreFilled (c : Collection) (layout : Layout) (members : List Member) (means : List (List ℕ)) (codes : List Block)
    : Type 0 where
  pub own_means : means ≡ all_means c layout members
  pub own_codes : codes ≡ all_codes c members
