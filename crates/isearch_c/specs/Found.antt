-- What a search gives out: as many pairs for each query as are wanted.
use Rattle.std.specs.Prelude.{◌≡◌, ℕ, ◌-◌, ◌/◌, ℤ, List, ◌++◌, drop, length, map, replicate, Option, None, Some}
use Rattle.std.specs.List.{flat_map}
use Rattle.series_core.specs.Answer.{answer}
use Rattle.series_core.specs.Collection.{Collection}
use Rattle.series_core.specs.Flat.{rows_of}
use Rattle.series_core.specs.declared.pair.Pair.{Pair}
use Rattle.window_rows.specs.Choice.{chosen_apart}
use Rattle.isearch_c.specs.declared.answers.Asked.{Asked}

-- what stands at the places that are left where there are fewer pairs than are wanted: the greatest numbers
abbrev pub nothing : Pair
nothing = record { distance = 18446744073709551615; number = 4294967295 }

-- these pairs, and nothing behind them, k in all
abbrev pub filled : ℕ → List Pair → List Pair
filled k pairs = pairs ++ replicate (k - length pairs) nothing

-- the k nearest; or of all series, nearer ones first, k that are chosen so that their numbers lie apart
abbrev pub found_by : Option ℕ → ℕ → Collection → List ℤ → List Pair
found_by None k c q = answer c q k
found_by (Some apart) k c q = chosen_apart apart (answer c q (length c.series)) k

-- what is wanted of a query
abbrev pub wanted_of : Asked → Collection → List ℤ → List Pair
wanted_of asked c q = found_by asked.apart asked.k c q

-- for each query in order what is wanted, filled up
abbrev pub answers : Asked → Collection → List (List ℤ) → List Pair
answers asked c queries = flat_map (λ q. filled asked.k (wanted_of asked c q)) queries

-- queries of n values that lie one behind another
abbrev pub queries_in : ℕ → List ℤ → List (List ℤ)
queries_in n values = rows_of n (length values / n) values

-- for each query in order the k nearest, filled up
abbrev pub all_nearest : ℕ → Collection → List ℤ → List Pair
all_nearest k c values = answers (record { k = k; apart = None }) c (queries_in c.points values)

-- for each query in order k that are chosen so that their numbers lie so far apart, filled up
abbrev pub all_apart : ℕ → ℕ → Collection → List ℤ → List Pair
all_apart k apart c values = answers (record { k = k; apart = Some apart }) c (queries_in c.points values)

-- the distances and the numbers of these pairs stand at places
pub record Hold (pairs : List Pair) (distances numbers : List ℕ) : Type 0 where
  pub distances_are : distances ≡ map (λ p. p.distance) pairs
  pub numbers_are : numbers ≡ map (λ p. p.number) pairs

-- the distances and the numbers of these pairs stand at the first places, and behind them what stood there
pub record HoldFirst (pairs : List Pair) (ds ds_then ns ns_then : List ℕ) : Type 0 where
  pub distances_are : ds_then ≡ map (λ p. p.distance) pairs ++ drop (length pairs) ds
  pub numbers_are : ns_then ≡ map (λ p. p.number) pairs ++ drop (length pairs) ns
