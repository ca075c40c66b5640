-- What a worker has of locked queues, what a pop did to it, and when it agrees with the pops of a record.
use Rattle.std.specs.Prelude.{◌≡◌, ℕ, ◌<◌, ◌≤◌, ◌∷◌, ◌++◌, ◌⊎◌, List, [], Option, None, Some, length, slice_get, slice_set}
use Rattle.list_totals.specs.Totals.{total}
use Rattle.list_totals.specs.Standing.{In}
use Rattle.turn_lock.specs.History.{entry}
use Rattle.turn_lock.specs.Passes.{Pass as TurnPass, Lock, IsPassOf, made_by}
use Rattle.turn_lock.specs.declared.plays.OneHistory.{OneHistory}
use Rattle.turn_lock.specs.declared.object.Entry.{Entry as Made}
use Rattle.leaf_queues.specs.declared.calls.Call.{Call}
use Rattle.leaf_queues.specs.declared.calls.Call.TheVariants.{Put, Pop}
use Rattle.leaf_queues.specs.declared.calls.Reply.{Reply}
use Rattle.leaf_queues.specs.declared.calls.Reply.TheVariants.{Put as PutAnswer, Pop as PopAnswer}
use Rattle.leaf_queues.specs.PlainQueue.{PlainQueue}
use Rattle.series_core.specs.declared.queue_words.PopReply.{PopReply}
use Rattle.series_core.specs.declared.queue_words.PopReply.TheVariants.{Closed}
use Rattle.search_machine.specs.Closes.{popped_of}
use Rattle.search_machine.specs.OwnRecord.{PopMade}
use Rattle.queue_histories.specs.Histories.{ArePops, History, taken_at}

-- a lock round a queue, and a pass of one
abbrev pub QueueLock : Type 0
QueueLock = Lock PlainQueue Call Reply OneHistory

abbrev pub QueuePass : Type 0
QueuePass = TurnPass PlainQueue Call Reply

-- there is a pass of each lock, at its place
pub record AreOwn (locks : List QueueLock) (passes : List QueuePass) : Type 0 where
  pub count : length passes ≡ length locks
  pub each : (m : ℕ) (k : QueueLock) (p : QueuePass) → slice_get locks m ≡ Some k
      → slice_get passes m ≡ Some p → IsPassOf k p

-- the locks, and its pass of each
pub record LockedKept : Type 0 where
  pub locks : List QueueLock
  pub passes : List QueuePass

-- how many passes it has
abbrev pub pass_count : LockedKept → ℕ
pass_count q = length q.passes

-- the calls that a pass made, where there is one
abbrev pub calls_of : Option QueuePass → History
calls_of None = []
calls_of (Some p) = made_by p

-- the calls at queue m
abbrev pub calls_at : LockedKept → ℕ → History
calls_at q m = calls_of (slice_get q.passes m)

-- one more call at queue m: the pass there made it
pub record Called (q : LockedKept) (m : ℕ) (call : Call) (reply : Reply) (k : LockedKept) : Type 0 where
  pub before : QueuePass
  pub pass : QueuePass
  pub at : slice_get q.passes m ≡ Some before
  pub after : k ≡ record q { passes = slice_set q.passes m pass }
  pub number : pass.number ≡ before.number
  pub made : made_by pass ≡ made_by before ++ entry before.number call reply ∷ []

-- a put is answered as a put, and a pop as a pop
abbrev pub Answers : Call → Reply → Type 0
Answers (Put e) (PutAnswer reply) = Unit {0}
Answers (Pop v) (PopAnswer reply) = Unit {0}
Answers _ _ = ⊥

-- what a pop with v from queue m did: it was made there, or names no queue and takes no step
abbrev pub LockedPops : LockedKept → ℕ → ℕ → PopReply → LockedKept → Type 0
LockedPops q m v reply k = ((length q.passes ≤ m) × (k ≡ q)) ⊎ Called q m (Pop v) (PopAnswer reply) k

-- these calls at queue m are those of the pops that are from it: all of them are pops, they took each leaf as often, each is one of
-- the pops, and each Closed reply of the queue is one of theirs
pub record ArePopsOf (m : ℕ) (ps : List PopMade) (calls : History) : Type 0 where
  pub alone : ArePops calls
  pub taken : (l : ℕ) → total (taken_at l) calls ≡ total (popped_of m l) ps
  pub made : (y : Made Call Reply) (v : ℕ) → In y calls → y.call ≡ Pop v
      → (p : PopMade) × In p ps × (p.limit ≡ v)
  pub closed : (p : PopMade) (v : ℕ) → In p ps → p.queue ≡ m → p.reply ≡ Closed v
      → (y : Made Call Reply) × In y calls × (y.reply ≡ PopAnswer (Closed v))

-- its calls at each queue are those of the pops that are from it
abbrev pub LockedAgrees : LockedKept → List PopMade → Type 0
LockedAgrees q ps = (m : ℕ) → m < length q.passes → ArePopsOf m ps (calls_at q m)

-- the passes keep their places and numbers
pub record SamePlaces (ps qs : List QueuePass) : Type 0 where
  pub count : length qs ≡ length ps
  pub each : (m : ℕ) (p q : QueuePass) → slice_get ps m ≡ Some p → slice_get qs m ≡ Some q → q.number ≡ p.number

-- the locks are as they were
pub record SameLocks (q k : LockedKept) : Type 0 where
  pub locks : k.locks ≡ q.locks
  pub passes : SamePlaces q.passes k.passes
