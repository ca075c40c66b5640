-- Searchers over locked queues, the passes of the locks, and the histories of the queues.
use Rattle.std.specs.Prelude.{◌≡◌, ℕ, ◌+◌, ◌<◌, ◌∷◌, List, [], Option, None, Vec, Some, length, map, slice_get}
use Rattle.std.specs.Global.{Global}
use Rattle.leaf_queues.specs.PlainQueue.{PlainQueue}
use Rattle.turn_lock.specs.History.{calls_by}
use Rattle.turn_lock.specs.Passes.{IsNewPass, callers_of, opening_of}
use Rattle.queue_histories.specs.Histories.{History, Leads}
use Rattle.queue_histories.specs.Callers.{CalledBelow}
use Rattle.live_query.specs.Parts.{Drainer, EachOn}
use Rattle.live_query.specs.LockedQueues.{LockedKept, QueueLock, QueuePass, calls_of}
use Rattle.live_query.specs.Knowing.{LockedOn}

-- a row of passes
abbrev pub Row : Type 0
Row = Vec QueuePass Global

-- the first pass was taken from each of these rows
pub record AreFronts (old : List Row) (fronts : List QueuePass) (new : List Row) : Type 0 where
  pub count : length fronts ≡ length old
  pub same : length new ≡ length old
  pub each : (j : ℕ) (p : QueuePass) (rest : Row) (row : Row) → slice_get old j ≡ Some row
      → slice_get fronts j ≡ Some p → slice_get new j ≡ Some rest → row.items ≡ p ∷ rest.items

-- the passes of a lock with the numbers from n on, below the number of its callers
pub record DealtFrom (lock : QueueLock) (n : ℕ) (row : List QueuePass) : Type 0 where
  pub count : n + length row ≡ callers_of lock
  pub each : (j : ℕ) (p : QueuePass) → slice_get row j ≡ Some p → IsNewPass lock (n + j) p

-- a row of passes for each lock
pub record AreDealt (locks : List QueueLock) (n : ℕ) (rows : List Row) : Type 0 where
  pub count : length rows ≡ length locks
  pub each : (m : ℕ) (k : QueueLock) (row : Row) → slice_get locks m ≡ Some k → slice_get rows m ≡ Some row
      → DealtFrom k n row.items

-- the passes in row i have the number i
abbrev pub AreNumbered : List Row → Type 0
AreNumbered rows =
    (i m : ℕ) (row : Row) (p : QueuePass) → slice_get rows i ≡ Some row → slice_get row.items m ≡ Some p
    → p.number ≡ i

-- the calls of pass m in row i, where there is one
abbrev pub calls_in_row : Option Row → ℕ → History
calls_in_row None m = []
calls_in_row (Some row) m = calls_of (slice_get row.items m)

abbrev pub calls_in : List Row → ℕ → ℕ → History
calls_in rows i m = calls_in_row (slice_get rows i) m

-- locks round these queues, for `callers` callers each
pub record AreRound (queues : List PlainQueue) (callers : ℕ) (locks : List QueueLock) : Type 0 where
  pub openings : map opening_of locks ≡ queues
  pub each : (m : ℕ) (k : QueueLock) → slice_get locks m ≡ Some k → callers_of k ≡ callers

-- one history of calls leads from a queue to what it is later; it has calls of callers below `callers` alone, and those of each are these
pub record WentBy (callers : ℕ) (calls : ℕ → History) (q r : PlainQueue) : Type 0 where
  pub log : History
  pub leads : Leads q log r
  pub callers_only : CalledBelow callers log
  pub own : (i : ℕ) → i < callers → calls_by i log ≡ calls i

-- a searcher that drains locked queues
abbrev pub Locking : Type 0
Locking = Drainer LockedKept

-- each searcher at its place, before some turns and after them
abbrev pub AllLocksOn : List Locking → List Locking → Type 0
AllLocksOn old new = EachOn LockedOn old new

-- worker i has the new passes of number i of these locks
pub record HasNew (locks : List QueueLock) (i : ℕ) (q : LockedKept) : Type 0 where
  pub locks_are : q.locks ≡ locks
  pub count : length q.passes ≡ length locks
  pub fresh : (m : ℕ) (k : QueueLock) (p : QueuePass) → slice_get locks m ≡ Some k → slice_get q.passes m ≡ Some p
      → IsNewPass k i p
