-- Lists of pairs: what is among another list, and ascending order.
use Rattle.std.specs.Prelude.{◌≡◌, ℕ, ◌≤◌, true, List, [], ◌∷◌, zero, suc}
use Rattle.list_totals.specs.Standing.{In}
use Rattle.series_core.specs.Pairs.{is_before}
use Rattle.series_core.specs.declared.pair.Pair.{Pair}
use Rattle.series_core.specs.declared.distance.TheConstants.{NONE}

-- each pair of the first list stands in the second
abbrev pub Among : List Pair → List Pair → Type 0
Among ps qs = (p : Pair) → In p ps → In p qs

-- each pair of the list is greater than p
abbrev pub Above : Pair → List Pair → Type 0
Above p [] = Unit {0}
Above p (q ∷ qs) = (is_before p q ≡ true) × Above p qs

-- each pair is followed by greater ones alone: the list ascends, and has no pair twice
abbrev pub Ascending : List Pair → Type 0
Ascending [] = Unit {0}
Ascending (p ∷ ps) = Above p ps × Ascending ps

-- the distance of the pair at place n, or NONE past the end
abbrev pub distance_at : ℕ → List Pair → ℕ
distance_at n [] = NONE
distance_at zero (p ∷ ps) = p.distance
distance_at (suc n) (p ∷ ps) = distance_at n ps

-- each distance of the list is at most NONE
abbrev pub AllNear : List Pair → Type 0
AllNear ps = (p : Pair) → In p ps → p.distance ≤ NONE
