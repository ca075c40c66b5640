-- Numbers that are counted over several batches.
use Rattle.std.specs.Prelude.{◌≡◌, ℕ, ◌+◌}
use Rattle.series_core.specs.declared.pair.Pair.{Pair}
use Rattle.live_collection.specs.declared.batch.Batch.{Batch}

-- the pair with its number counted from this one on
abbrev pub counted_from : ℕ → Pair → Pair
counted_from first p = record { distance = p.distance; number = first + p.number }

-- the batch's series have n values
abbrev pub HasPoints : ℕ → Batch → Type 0
HasPoints n b = b.series.points ≡ n
