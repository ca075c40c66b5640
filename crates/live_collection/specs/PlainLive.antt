-- What the shared object of a live collection is: how much stands, and for each reader the batches that it has not taken yet.
use Rattle.std.specs.Prelude.{ℕ, zero, suc, ◌+◌, ◌==◌, List, [], ◌∷◌, ◌++◌, Bool, false, cond, nat_lt, nat_le, length, map, slice_get, slice_set, replicate, Option, Some, None}
use Rattle.series_core.specs.declared.rows.TheConstants.{MAX_COUNT}
use Rattle.live_collection.specs.declared.object.TheConstants.{MAX_BATCHES}
use Rattle.live_collection.specs.declared.batch.Batch.{Batch}
use Rattle.live_collection.specs.PlainAppend.{PlainAppend}
use Rattle.live_collection.specs.declared.calls.Call.{Call}
use Rattle.live_collection.specs.declared.calls.Call.TheVariants.{Append, Ask}
use Rattle.live_collection.specs.declared.calls.Reply.{Reply}
use Rattle.live_collection.specs.declared.calls.Reply.TheVariants.{Stands, Refused, Parts}

-- the length of each series, the numbers of batches and of series that stand, and each reader's list
pub record PlainLive : Type 0 where
  pub points : ℕ
  pub batches : ℕ
  pub series : ℕ
  pub lists : List (List Batch)

-- the object for series of n points and this many readers, in which no batch stands
abbrev pub empty_live : ℕ → ℕ → PlainLive
empty_live n readers = record { points = n; batches = 0; series = 0; lists = replicate readers [] }

-- whether an append finds room: a part for each reader, series of the one length, and both limits kept
abbrev pub may_stand : PlainLive → PlainAppend → Bool
may_stand o a = cond (a.parts == length o.lists)
    (cond (a.batch.series.points == o.points)
    (cond (nat_lt o.batches MAX_BATCHES)
    (nat_le (o.series + length a.batch.series.series) MAX_COUNT)
    false)
    false)
    false

-- whether the append of this caller is accepted: it is the writer's, and finds room
abbrev pub accepts : PlainLive → ℕ → PlainAppend → Bool
accepts o caller a = cond (caller == 0) (may_stand o a) false

-- the object with the batch behind each list
abbrev pub grown : PlainLive → Batch → PlainLive
grown o b = record {
  points = o.points;
  batches = o.batches + 1;
  series = o.series + length b.series.series;
  lists = map (λ l. l ++ b ∷ []) o.lists;
}

abbrev pub append : PlainLive → ℕ → PlainAppend → PlainLive × Reply
append o caller a = cond (accepts o caller a)
    (grown o a.batch, Stands (o.series + length a.batch.series.series))
    (o, Refused o.batches o.series)

-- the object with these lists
abbrev pub with_lists : PlainLive → List (List Batch) → PlainLive
with_lists o lists = record {
  points = o.points;
  batches = o.batches;
  series = o.series;
  lists = lists;
}

-- the reader with this place takes what is found there
abbrev pub taken : PlainLive → ℕ → Option (List Batch) → PlainLive × Reply
taken o at (Some l) = (with_lists o (slice_set o.lists at []), Parts l)
taken o at None = (o, Parts [])

abbrev pub ask : PlainLive → ℕ → PlainLive × Reply
ask o zero = (o, Parts [])
ask o (suc at) = taken o at (slice_get o.lists at)

-- the meaning of a call
abbrev pub next : PlainLive → ℕ → Call → PlainLive × Reply
next o caller (Append a) = append o caller a
next o caller Ask = ask o caller
