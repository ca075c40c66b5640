-- What an append asks.
use Rattle.std.specs.Prelude.{ℕ}
use Rattle.live_collection.specs.declared.batch.Batch.{Batch}

-- the batch, and the number of its parts
pub record PlainAppend : Type 0 where
  pub batch : Batch
  pub parts : ℕ
