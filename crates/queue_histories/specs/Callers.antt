-- Who made the calls of a history: numbers below a bound, and members of a team that account for their own.
use Rattle.std.specs.Prelude.{◌≡◌, ℕ, ◌<◌, List, All, Some, length, slice_get}
use Rattle.list_totals.specs.Totals.{total}
use Rattle.turn_lock.specs.declared.object.Entry.{Entry as Made}
use Rattle.turn_lock.specs.History.{calls_by}
use Rattle.leaf_queues.specs.declared.calls.Call.{Call}
use Rattle.leaf_queues.specs.declared.calls.Reply.{Reply}
use Rattle.search_machine.specs.OwnRecord.{RecordedWorker}
use Rattle.queue_histories.specs.Histories.{History}

-- workers with their own records: member i is the caller with the number i
abbrev pub Team : Type 0
Team = List RecordedWorker

-- how much a call that was made counts
abbrev pub Count : Type 0
Count = Made Call Reply → ℕ

-- each call counts once
abbrev pub once : Count
once x = 1

-- each call is one of a caller with a number below n
abbrev pub CalledBelow : ℕ → History → Type 0
CalledBelow n log = All (λ x. x.caller < n) log

-- each call is one of a member's, and the calls of each member's number count together what it says
pub record EachAccounts (f : Count) (count : RecordedWorker → ℕ) (team : Team)
    (log : History) : Type 0 where
  pub callers : CalledBelow (length team) log
  pub accounts : (i : ℕ) (x : RecordedWorker) → slice_get team i ≡ Some x
      → total f (calls_by i log) ≡ count x
