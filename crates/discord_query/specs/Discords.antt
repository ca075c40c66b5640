-- The discords of a collection: by ranks over the plain list of all series, with no search in them.
use Rattle.std.specs.Prelude.{ℕ, ◌-◌, Bool, List, map, length, not, nat_eq, take}
use Rattle.std.specs.List.{filter, flat_map, range_with_len}
use Rattle.series_core.specs.Collection.{Collection}
use Rattle.series_core.specs.Answer.{answer}
use Rattle.series_core.specs.Pairs.{ascending, by_rank}
use Rattle.series_core.specs.Order.{distance_at}
use Rattle.series_core.specs.declared.pair.Pair.{Pair}
use Rattle.series_core.specs.declared.distance.TheConstants.{NONE}
use Rattle.subtree_build.specs.Members.{series_at}
use Rattle.discord_query.specs.declared.discords.Discord.{Discord}

-- whether a pair is of another series than number s
abbrev pub is_other : ℕ → Pair → Bool
is_other s p = not (nat_eq p.number s)

-- the nearest other of series s, as a list of one: the first of all series by rank, measured from s, that is not s.
-- Empty where there is no other
abbrev pub other : Collection → ℕ → List Pair
other c s = take 1 (filter (is_other s) (answer c (series_at c s) (length c.series)))

-- series s with its nearest other
abbrev pub discord_of : ℕ → Pair → Discord
discord_of s o = record { number = s; distance = o.distance; neighbour = o.number }

-- the same, as a list of one
abbrev pub discords_of : Collection → ℕ → List Discord
discords_of c s = map (discord_of s) (other c s)

-- series s with NONE less the distance of its nearest other: a pair that is the smaller the farther that other is
abbrev pub farness : ℕ → Pair → Pair
farness s o = record { distance = NONE - o.distance; number = s }

-- the same, as a list of one
abbrev pub farness_of : Collection → ℕ → List Pair
farness_of c s = map (farness s) (other c s)

-- those of all series that have an other
abbrev pub all_farness : Collection → List Pair
all_farness c = flat_map (farness_of c) (range_with_len 0 (length c.series))

-- the first k of them by rank: the farthest first, of two as far the one with the smaller number
abbrev pub top : Collection → ℕ → List Pair
top c k = by_rank (all_farness c) k

-- the k discords
abbrev pub discords : Collection → ℕ → List Discord
discords c k = flat_map (λ p. discords_of c p.number) (top c k)

-- NONE less the distance of the k-th discord, or NONE where there are fewer
abbrev pub least_farness : Collection → ℕ → ℕ
least_farness c k = distance_at (k - 1) (ascending (all_farness c))
