-- The members of a collection: each series by its number and its full word.
use Rattle.std.specs.Prelude.{ℕ, ℤ, ◌+◌, List, [], ◌∷◌}
use Rattle.series_core.specs.Collection.{Collection}
use Rattle.isax_word.specs.declared.layout.Layout.{Layout}
use Rattle.isax_word.specs.FullWord.{full_word}
use Rattle.isax_word.specs.declared.member.Member.{Member}

-- the member of series number s
abbrev pub member_of : Layout → ℕ → List ℤ → Member
member_of layout s xs = record { number = s; full = full_word layout xs }

-- the member of each series, where the first of them has number s
abbrev pub members_from : Layout → ℕ → List (List ℤ) → List Member
members_from layout s [] = []
members_from layout s (xs ∷ rest) = member_of layout s xs ∷ members_from layout (s + 1) rest

-- the members of a collection, by number
abbrev pub members_of : Layout → Collection → List Member
members_of layout c = members_from layout 0 c.series
