-- What a history of calls on a live collection tells: which batches were appended, the series that then stand, and which
-- batches a reader was given.
use Rattle.std.specs.Prelude.{List, [], ◌∷◌, ℤ}
use Rattle.std.specs.List.{flat_map}
use Rattle.turn_lock.specs.declared.object.Entry.{Entry}
use Rattle.live_collection.specs.declared.batch.Batch.{Batch}
use Rattle.live_collection.specs.declared.calls.Call.{Call}
use Rattle.live_collection.specs.declared.calls.Call.TheVariants.{Append, Ask}
use Rattle.live_collection.specs.declared.calls.Reply.{Reply}
use Rattle.live_collection.specs.declared.calls.Reply.TheVariants.{Stands, Refused, Parts}

-- calls with their callers and replies, in order
abbrev pub Log : Type 0
Log = List (Entry Call Reply)

-- the batch that a call appended, as a list of one: an append is accepted where its reply is that the batch stands
abbrev pub appended_by : Call → Reply → List Batch
appended_by (Append a) (Stands m) = a.batch ∷ []
appended_by (Append a) (Refused b m) = []
appended_by (Append a) (Parts l) = []
appended_by Ask r = []

-- the batches of all accepted appends, in order
abbrev pub appended : Log → List Batch
appended log = flat_map (λ (e : Entry Call Reply). appended_by e.call e.reply) log

-- the series of these batches, batch after batch
abbrev pub series_of : List Batch → List (List ℤ)
series_of bs = flat_map (λ (b : Batch). b.series.series) bs

-- the series that stand after a history: those of all accepted batches, in order
abbrev pub standing : Log → List (List ℤ)
standing log = series_of (appended log)

-- the batches that a reply gives
abbrev pub given_by : Reply → List Batch
given_by (Parts l) = l
given_by (Stands m) = []
given_by (Refused b m) = []

-- the batches that the replies give, in order
abbrev pub given : Log → List Batch
given log = flat_map (λ (e : Entry Call Reply). given_by e.reply) log
