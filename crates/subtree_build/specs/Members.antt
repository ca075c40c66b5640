-- Members as a tree lists them: by number.
use Rattle.std.specs.Prelude.{◌≡◌, ℕ, ◌≤◌, ℤ, length, All, List, [], ◌∷◌, slice_index_or, nat_lt, cond, map}
use Rattle.list_totals.specs.Totals.{times}
use Rattle.series_core.specs.Collection.{Collection}
use Rattle.isax_word.specs.declared.layout.Layout.{Layout}
use Rattle.isax_word.specs.declared.member.Member.{Member}
use Rattle.summary_phase.specs.Members.{member_of}

-- the series of a number, and no values where the collection has none of that number
abbrev pub series_at : Collection → ℕ → List ℤ
series_at c i = slice_index_or c.series i []

-- a member with the full word of its series
abbrev pub with_own_word : Collection → Layout → Member → Member
with_own_word c layout m = member_of layout m.number (series_at c m.number)

-- the numbers of members
abbrev pub numbers_of : List Member → List ℕ
numbers_of members = map (λ m. m.number) members

-- a member put before the first of the list that has no smaller number
abbrev pub insert_by_number : Member → List Member → List Member
insert_by_number m [] = m ∷ []
insert_by_number m (x ∷ xs) =
    cond (nat_lt x.number m.number) (x ∷ insert_by_number m xs) (m ∷ x ∷ xs)

-- the same members, each as often, ascending by number
abbrev pub by_number : List Member → List Member
by_number [] = []
by_number (m ∷ members) = insert_by_number m (by_number members)

-- no two members have one number
abbrev pub NumbersDiffer : List Member → Type 0
NumbersDiffer members = (i : ℕ) → times i (numbers_of members) ≤ 1

-- each member's full word has w symbols
abbrev pub HaveSegments : ℕ → List Member → Type 0
HaveSegments w members = All (λ m. length m.full ≡ w) members
