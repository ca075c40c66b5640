-- What one call on a live collection does to its writer and its readers, and what is known at the end.
use Rattle.std.specs.Prelude.{◌≡◌, ℕ, ◌+◌, ◌<◌, ◌≤◌, ◌⊎◌, List, [], ◌∷◌, ◌++◌, All, length, Result, Ok, Err}
use Rattle.series_core.specs.Collection.{Collection}
use Rattle.turn_lock.specs.History.{EndsWith, calls_by, entry, state_after}
use Rattle.turn_lock.specs.Passes.{Pass, AgreesWith, SamePass, seen_by, made_by}
use Rattle.live_collection.specs.declared.batch.Batch.{Batch}
use Rattle.live_collection.specs.declared.calls.Call.{Call}
use Rattle.live_collection.specs.declared.calls.Call.TheVariants.{Append}
use Rattle.live_collection.specs.declared.calls.Reply.{Reply}
use Rattle.live_collection.specs.declared.calls.Reply.TheVariants.{Stands, Refused}
use Rattle.live_collection.specs.declared.live.AppendError.{AppendError}
use Rattle.live_collection.specs.declared.live.AppendError.TheVariants.{Full, NoMemory}
use Rattle.live_collection.specs.declared.live.LiveCollection.{LiveCollection}
use Rattle.live_collection.specs.declared.live.Writer.{Writer}
use Rattle.live_collection.specs.declared.live.Reader.{Reader}
use Rattle.series_core.specs.declared.rows.TheConstants.{MAX_COUNT}
use Rattle.live_collection.specs.declared.object.TheConstants.{MAX_BATCHES}
use Rattle.live_collection.specs.PlainLive.{PlainLive, empty_live, next}
use Rattle.live_collection.specs.Histories.{Log, appended, standing}
use Rattle.live_collection.specs.Sides.{IsHistoryOf, points_of, writer_saw, writer_made}

-- a pass at a live collection's lock
abbrev pub LivePass : Type 0
LivePass = Pass PlainLive Call Reply

-- The pass made one call more: it is one more of its own calls, and what it has then seen begins with what it had seen,
-- ends with this call, is legal, and has just its own calls under its number.
pub record MakesCall (k : LiveCollection) (old new : LivePass) (call : Call) (reply : Reply) : Type 0 where
  pub number : new.number ≡ old.number
  pub made : made_by new ≡ made_by old ++ entry old.number call reply ∷ []
  pub seen : EndsWith (seen_by old) (entry old.number call reply) (seen_by new)
  pub legal : IsHistoryOf k (seen_by new)
  pub own : calls_by old.number (seen_by new) ≡ made_by new

-- the call that appends a batch, with `parts` parts
abbrev pub appends : Batch → ℕ → Call
appends batch parts = Append (record { batch = batch; parts = parts })

-- the writer called for a batch with these series, and a part of it for each reader
pub record CallsAppend (k : LiveCollection) (c : Collection) (old new : Writer) (reply : Reply) : Type 0 where
  pub batch : Batch
  pub series : batch.series ≡ c
  pub makes : MakesCall k old.pass new.pass (appends batch k.readers) reply

-- the batch stands, with m series in all, and the limits are kept
pub record BatchStands (k : LiveCollection) (c : Collection) (old new : Writer) (m : ℕ) : Type 0 where
  pub call : CallsAppend k c old new (Stands m)
  pub count : m ≡ length (standing (writer_saw new))
  pub batches : length (appended (writer_saw new)) ≤ MAX_BATCHES
  pub series : m ≤ MAX_COUNT

-- the batch was refused where b batches with t series stand, which leave no room for it; nothing is changed by that
pub record BatchRefused (k : LiveCollection) (c : Collection) (old new : Writer) (b t : ℕ) : Type 0 where
  pub call : CallsAppend k c old new (Refused b t)
  pub batches : b ≡ length (appended (writer_saw new))
  pub series : t ≡ length (standing (writer_saw new))
  pub full : (b ≡ MAX_BATCHES) ⊎ (MAX_COUNT < t + length c.series)
  pub unchanged : (before : Log)
      → writer_saw new ≡ before ++ entry old.pass.number (appends call.batch k.readers) (Refused b t) ∷ []
      → state_after next (empty_live (points_of k) k.readers) (writer_saw new)
      ≡ state_after next (empty_live (points_of k) k.readers) before

-- what an append of these series did, by its result
abbrev pub Appends : LiveCollection → Collection → Writer → Writer → Result ℕ AppendError → Type 0
Appends k c old new (Ok m) = BatchStands k c old new m
Appends k c old new (Err (Full b t)) = BatchRefused k c old new b t
Appends k c old new (Err NoMemory) = SamePass old.pass new.pass

-- One legal history of all calls leads to this number of series. Its accepted appends are just those of the writer, each
-- once and in order, and what each side had seen begins it.
pub record Closes (k : LiveCollection) (w : Writer) (rs : List Reader) (total : ℕ) : Type 0 where
  pub log : Log
  pub legal : IsHistoryOf k log
  pub count : total ≡ length (standing log)
  pub appends : appended log ≡ appended (writer_made w)
  pub writer : AgreesWith log w.pass
  pub readers : All (λ r. AgreesWith log r.pass) rs
