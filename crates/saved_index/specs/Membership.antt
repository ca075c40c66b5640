-- Members of leaves: how they are made of numbers, and what they count for the series of a number.
use Rattle.std.specs.Prelude.{◌≡◌, ◌^◌, ◌<◌, ◌≤◌, ℕ, true, ◌-◌, ◌*◌, ◌==◌, not, List, [], ◌∷◌, length, map, take, drop, flat_map, slice_index_or, Bool, Option, find, if◌then◌else◌}
use Rattle.std.specs.List.{All, range_with_len}
use Rattle.list_totals.specs.Totals.{total, one_if_same}
use Rattle.series_core.specs.Collection.{Collection}
use Rattle.isax_word.specs.declared.layout.Layout.{Layout}
use Rattle.isax_word.specs.declared.member.Member.{Member}
use Rattle.isax_word.specs.declared.word.Part.{Part}
use Rattle.isax_word.specs.FullWord.{full_word}
use Rattle.isax_word.specs.Word.{word_contains}
use Rattle.subtree_build.specs.declared.leaf.TreeLeaf.{TreeLeaf}
use Rattle.subtree_build.specs.Assembly.{AddUp}
use Rattle.subtree_build.specs.Fits.{WordContainsMembers}
use Rattle.subtree_build.specs.Index.{leaf_at}
use Rattle.subtree_build.specs.Members.{with_own_word}
use Rattle.saved_index.specs.declared.members.MemberRow.{MemberRow}

-- the full words of all series, by number
abbrev pub words_of : Collection → Layout → List (List ℕ)
words_of c layout = map (full_word layout) c.series

-- the full words of the series from one number up to, but not including, another
abbrev pub words_between : Collection → Layout → ℕ → ℕ → List (List ℕ)
words_between c layout from to = map (full_word layout) (take (to - from) (drop from c.series))

-- the series of a collection from one number up to, but not including, another, and a layout for them
pub record IsStretch (c : Collection) (layout : Layout) (from to : ℕ) : Type 0 where
  pub points : layout.cuts.row_length ≡ c.points
  pub order : from ≤ to
  pub inside : to ≤ length c.series

-- the member of a number, with the full word that has this number
abbrev pub with_word : List (List ℕ) → ℕ → Member
with_word words n = record { number = n; full = slice_index_or words n [] }

-- the members of numbers, list by list
abbrev pub members_in_lists : List (List ℕ) → List (List ℕ) → List (List Member)
members_in_lists words lists = map (λ numbers. map (with_word words) numbers) lists

-- the same in a row, list after list
abbrev pub all_members : List (List ℕ) → List (List ℕ) → List Member
all_members words lists = flat_map (λ numbers. map (with_word words) numbers) lists

-- the number of a member
abbrev pub number_of : Member → ℕ
number_of m = m.number

-- the lists of numbers in a row, of which each has so many
abbrev pub cut_numbers : List ℕ → List ℕ → List (List ℕ)
cut_numbers [] numbers = []
cut_numbers (count ∷ counts) numbers = take count numbers ∷ cut_numbers counts (drop count numbers)

-- so many members in a row, and no more than there are, are those of lists that have so many each
pub record HoldsLists (counts : List ℕ) (whole : ℕ) (members : List Member) : Type 0 where
  pub all : AddUp counts whole
  pub inside : whole ≤ length members
  pub few : whole < 2 ^ 32

-- a word contains the full word of each member
abbrev pub ContainsAll : List Part → List Member → Type 0
ContainsAll word members = All (λ m. word_contains word m.full ≡ true) members

-- the word of each leaf contains the full words of its members
abbrev pub AreContained : List TreeLeaf → Type 0
AreContained leaves = All WordContainsMembers leaves

-- so does that of each leaf from one number up to, but not including, another
abbrev pub AreContainedBetween : List TreeLeaf → ℕ → ℕ → Type 0
AreContainedBetween leaves from to = (l : ℕ) → from ≤ l → l < to → WordContainsMembers (leaf_at leaves l)

-- members that full words can be made for: each is a series of a collection whose length is that of the layout, and an index has room for
-- them
pub record CanHaveWords (c : Collection) (layout : Layout) (members : List Member) : Type 0 where
  pub row_length : layout.cuts.row_length ≡ c.points
  pub series : All (λ m. m.number < length c.series) members
  pub few : length members < 2 ^ 32

-- members in a row that are those of lists as soon as each has the full word of its series
pub record IsRowFor (c : Collection) (layout : Layout) (lists : List (List ℕ)) (r : MemberRow) : Type 0 where
  pub counts : r.counts.items ≡ map (λ numbers. length numbers) lists
  pub own : map (with_own_word c layout) r.members.items ≡ all_members (words_of c layout) lists
  pub can : CanHaveWords c layout r.members.items

-- what a member of a leaf of this word weighs: 1 where the word contains its full word, and else 2
abbrev pub weight : List Part → Member → ℕ
weight word m = if word_contains word m.full then 1 else 2

-- what it weighs for series i: nothing where its number is another
abbrev pub weight_for : ℕ → List Part → Member → ℕ
weight_for i word m = one_if_same i m.number * weight word m

-- what the members of a leaf weigh for series i
abbrev pub leaf_weight : ℕ → TreeLeaf → ℕ
leaf_weight i x = total (weight_for i x.word) x.members

-- whether the members of leaves weigh other than 1 for series i
abbrev pub is_unfit : List TreeLeaf → ℕ → Bool
is_unfit leaves i = not (total (leaf_weight i) leaves == 1)

-- the least series number below a count for which they do
abbrev pub first_unfit_of : List TreeLeaf → ℕ → Option ℕ
first_unfit_of leaves count = find (is_unfit leaves) (range_with_len 0 count)
