-- A live collection's writer and readers, and the histories that they see.
use Rattle.std.specs.Prelude.{◌≡◌, ℕ, ◌+◌, ◌<◌, ◌≤◌, List, [], All, length, map, slice_index_or, vec_capacity}
use Rattle.list_totals.specs.Standing.{In}
use Rattle.series_core.specs.Collection.{Collection}
use Rattle.turn_lock.specs.History.{IsLegal}
use Rattle.turn_lock.specs.Passes.{IsPassOf, seen_by, made_by}
use Rattle.live_collection.specs.declared.live.LiveCollection.{LiveCollection}
use Rattle.live_collection.specs.declared.live.Writer.{Writer}
use Rattle.live_collection.specs.declared.live.Reader.{Reader}
use Rattle.live_collection.specs.PlainLive.{empty_live, next}
use Rattle.live_collection.specs.Histories.{Log, standing, given}

-- the number of values of each series
abbrev pub points_of : LiveCollection → ℕ
points_of k = k.settings.layout.cuts.row_length

-- the history is legal: each reply is that of the plain object, in which no batch stands at first
abbrev pub IsHistoryOf : LiveCollection → Log → Type 0
IsHistoryOf k log = IsLegal next (empty_live (points_of k) k.readers) log

-- the collection that stands after a history
abbrev pub collection_after : LiveCollection → Log → Collection
collection_after k log = record { points = points_of k; series = standing log }

-- the history that the writer has seen
abbrev pub writer_saw : Writer → Log
writer_saw w = seen_by w.pass

-- the writer's own calls
abbrev pub writer_made : Writer → Log
writer_made w = made_by w.pass

-- the history that the reader has seen
abbrev pub reader_saw : Reader → Log
reader_saw r = seen_by r.pass

-- the reader's own calls
abbrev pub reader_made : Reader → Log
reader_made r = made_by r.pass

-- it is the writer of this collection, with the caller's number 0, and has room for all passes
pub record IsWriterOf (k : LiveCollection) (w : Writer) : Type 0 where
  pub pass : IsPassOf k.lock w.pass
  pub number : w.pass.number ≡ 0
  pub empty : w.room.items ≡ []
  pub room : k.readers < vec_capacity w.room

-- it is a reader of this collection, with one of the numbers from 1, and its parts are what it was given
pub record IsReaderOf (k : LiveCollection) (r : Reader) : Type 0 where
  pub pass : IsPassOf k.lock r.pass
  pub some : 0 < r.pass.number
  pub limit : r.pass.number ≤ k.readers
  pub parts : r.parts ≡ given (reader_made r)

-- it is the reader with this number, and has seen and made no call
pub record IsNewReader (k : LiveCollection) (n : ℕ) (r : Reader) : Type 0 where
  pub reader : IsReaderOf k r
  pub number : r.pass.number ≡ n
  pub saw : reader_saw r ≡ []
  pub made : reader_made r ≡ []

-- the readers are numbered from 1 in order, and have seen and made no call
abbrev pub AreNewReaders : LiveCollection → List Reader → Type 0
AreNewReaders k rs = (i : ℕ) (d : Reader) → i < length rs → IsNewReader k (i + 1) (slice_index_or rs i d)

-- they are all readers of the collection: as many as it has, and each number is there
pub record AreAllReaders (k : LiveCollection) (rs : List Reader) : Type 0 where
  pub each : All (IsReaderOf k) rs
  pub count : length rs ≡ k.readers
  pub numbers : (n : ℕ) → 0 < n → n ≤ k.readers → In n (map (λ r. r.pass.number) rs)
