-- What a history of a locked queue says by the records of the workers that made it.
use Rattle.std.specs.Prelude.{false, ◌≡◌, ℕ, Some, length, slice_get}
use Rattle.list_totals.specs.Totals.{total}
use Rattle.list_totals.specs.Standing.{In}
use Rattle.series_core.specs.declared.queue_words.Entry.{Entry}
use Rattle.series_core.specs.declared.queue_words.PopReply.TheVariants.{Closed}
use Rattle.turn_lock.specs.declared.object.Entry.{Entry as Made}
use Rattle.turn_lock.specs.History.{calls_by}
use Rattle.leaf_queues.specs.declared.calls.Call.{Call}
use Rattle.leaf_queues.specs.declared.calls.Call.TheVariants.{Put, Pop}
use Rattle.leaf_queues.specs.declared.calls.Reply.{Reply}
use Rattle.leaf_queues.specs.declared.calls.Reply.TheVariants.{Put as PutAnswer, Pop as PopAnswer}
use Rattle.search_machine.specs.OwnRecord.{PutMade, PopMade, RecordedWorker, is_refused}
use Rattle.search_machine.specs.Closes.{placed_by, popped_by}
use Rattle.queue_histories.specs.Histories.{History, placed_at, taken_at}
use Rattle.queue_histories.specs.Callers.{CalledBelow, Team}

-- these calls at queue m are the ones that the worker's record has
pub record Agrees (m : ℕ) (x : RecordedWorker) (calls : History) : Type 0 where
  -- they placed and took each leaf as often as the record's puts and pops did
  pub placed : (l : ℕ) → total (placed_at l) calls ≡ placed_by m l x
  pub taken : (l : ℕ) → total (taken_at l) calls ≡ popped_by m l x
  -- each put and each pop among them is one of the record's
  pub puts : (y : Made Call Reply) (e : Entry) → In y calls → y.call ≡ Put e
      → (p : PutMade) × In p x.own.puts × (p.queue ≡ m) × (p.entry ≡ e)
  pub pops : (y : Made Call Reply) (v : ℕ) → In y calls → y.call ≡ Pop v
      → (p : PopMade) × In p x.own.pops × (p.limit ≡ v)
  -- each put into the queue in the record is one of theirs, and so is each Closed reply of the queue
  pub answered : (p : PutMade) → In p x.own.puts → p.queue ≡ m
      → (y : Made Call Reply) × In y calls × (y.call ≡ Put p.entry)
      × (y.reply ≡ PutAnswer p.reply)
  pub closed : (p : PopMade) (v : ℕ) → In p x.own.pops → p.queue ≡ m → p.reply ≡ Closed v
      → (y : Made Call Reply) × In y calls × (y.reply ≡ PopAnswer (Closed v))

-- the history at queue m is that of the team's records: member i made the calls of number i
pub record TeamAgrees (m : ℕ) (team : Team) (log : History) : Type 0 where
  pub callers : CalledBelow (length team) log
  pub members : (i : ℕ) (x : RecordedWorker) → slice_get team i ≡ Some x
      → Agrees m x (calls_by i log)

-- no put into queue m in the team's records was answered Shut or Filled
abbrev pub NoneRefusedAt : ℕ → Team → Type 0
NoneRefusedAt m team =
    (i : ℕ) (x : RecordedWorker) (p : PutMade) → slice_get team i ≡ Some x → In p x.own.puts
    → p.queue ≡ m → is_refused p.reply ≡ false
