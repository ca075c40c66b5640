-- When the distances of a search are those of a collection's series to a query.
use Rattle.std.specs.Prelude.{◌≡◌, ℕ, ℤ, List, Some, length, slice_get}
use Rattle.series_core.specs.Collection.{Collection}
use Rattle.series_core.specs.Distance.{squared_distance}
use Rattle.search_machine.specs.Ground.{Ground}

-- the search has as many series as the collection, and the distance of each by its number
pub record Measures (g : Ground) (c : Collection) (q : List ℤ) : Type 0 where
  pub count : g.count ≡ length c.series
  pub distance : (s : ℕ) (xs : List ℤ) → slice_get c.series s ≡ Some xs
      → g.distance s ≡ squared_distance xs q
