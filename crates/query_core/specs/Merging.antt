-- Two ascending lists that are merged.
use Rattle.std.specs.Prelude.{◌≡◌, Bool, true, false, List, [], ◌∷◌, Option, None, Some}
use Rattle.series_core.specs.Pairs.{is_before, ascending}
use Rattle.series_core.specs.declared.pair.Pair.{Pair}

-- both lists are in ascending order
abbrev pub AreOrdered : List Pair → List Pair → Type 0
AreOrdered ps qs = (ascending ps ≡ ps) × (ascending qs ≡ qs)

-- the first pair of a list, where it has one, and the others
abbrev pub IsNext : List Pair → Option Pair → List Pair → Type 0
IsNext ps None qs = ps ≡ []
IsNext ps (Some p) qs = ps ≡ p ∷ qs

-- whether the first list has a pair that comes before those of the second
abbrev pub is_left_next : List Pair → List Pair → Bool
is_left_next [] qs = false
is_left_next (p ∷ ps) [] = true
is_left_next (p ∷ ps) (q ∷ qs) = is_before p q
