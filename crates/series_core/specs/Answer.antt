-- What a query asks of a collection: the k nearest series, and all series within a radius.
use Rattle.std.specs.Prelude.{ℕ, ◌+◌, ◌-◌, ℤ, List, [], ◌∷◌, nat_le, length, Option, None, Some, slice_get}
use Rattle.std.specs.List.{filter}
use Rattle.series_core.specs.Collection.{Collection}
use Rattle.series_core.specs.Distance.{squared_distance}
use Rattle.series_core.specs.Pairs.{by_rank}
use Rattle.series_core.specs.declared.pair.Pair.{Pair}
use Rattle.series_core.specs.declared.distance.TheConstants.{NONE}

-- the pair of series number s for the query q
abbrev pub pair_of : List ℤ → ℕ → List ℤ → Pair
pair_of q s xs = record { distance = squared_distance xs q; number = s }

-- the pair of each series, where the first of them has number s
abbrev pub pairs_from : ℕ → List (List ℤ) → List ℤ → List Pair
pairs_from s [] q = []
pairs_from s (xs ∷ rest) q = pair_of q s xs ∷ pairs_from (s + 1) rest q

-- the pair of each series of the collection
abbrev pub pairs_of : Collection → List ℤ → List Pair
pairs_of c q = pairs_from 0 c.series q

-- the k nearest series, by rank; all where there are no more than k
abbrev pub answer : Collection → List ℤ → ℕ → List Pair
answer c q k = by_rank (pairs_of c q) k

-- the pairs with a distance of at most r, in order of rank
abbrev pub within : Collection → List ℤ → ℕ → List Pair
within c q r =
    let near = filter (λ p. nat_le p.distance r) (pairs_of c q) in by_rank near (length near)

-- the distance of a pair, or NONE where there is none
abbrev pub distance_or_none : Option Pair → ℕ
distance_or_none None = NONE
distance_or_none (Some p) = p.distance

-- the distance of the last of the k nearest, or NONE where there are fewer than k series
abbrev pub last : Collection → List ℤ → ℕ → ℕ
last c q k = distance_or_none (slice_get (answer c q k) (k - 1))
