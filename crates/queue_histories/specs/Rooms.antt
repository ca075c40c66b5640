-- When no put of a history is refused: there is room for all calls, or they put different leaves of the queue.
use Rattle.std.specs.Prelude.{◌≡◌, ℕ, ◌+◌, ◌<◌, ◌≤◌, length, None}
use Rattle.list_totals.specs.Totals.{total, one_if_same}
use Rattle.list_totals.specs.Standing.{In}
use Rattle.series_core.specs.declared.queue_words.Entry.{Entry}
use Rattle.series_core.specs.declared.queue_words.PutReply.TheVariants.{Placed}
use Rattle.turn_lock.specs.declared.object.Entry.{Entry as Made}
use Rattle.leaf_queues.specs.declared.calls.Call.{Call}
use Rattle.leaf_queues.specs.declared.calls.Call.TheVariants.{Put, Pop}
use Rattle.leaf_queues.specs.declared.calls.Reply.{Reply}
use Rattle.leaf_queues.specs.declared.calls.Reply.TheVariants.{Put as PutAnswer}
use Rattle.leaf_queues.specs.PlainQueue.{PlainQueue, empty_queue}
use Rattle.search_machine.specs.Ground.{Ground, queue_of}
use Rattle.search_machine.specs.Closes.{puts_into}
use Rattle.search_machine.specs.Machine.{capacity_of}
use Rattle.search_machine.specs.Sound.{waits, takes}
use Rattle.queue_histories.specs.Callers.{EachAccounts, Team, once}
use Rattle.queue_histories.specs.Histories.{ArePuts, History, Holds}

-- each reply says that the entry was placed
abbrev pub AllPlaced : History → Type 0
AllPlaced log = (x : Made Call Reply) → In x log → x.reply ≡ PutAnswer Placed

-- each put was placed, whatever else was called
abbrev pub PutsPlaced : History → Type 0
PutsPlaced log =
    (x : Made Call Reply) (e : Entry) → In x log → x.call ≡ Put e → x.reply ≡ PutAnswer Placed

-- the queue is open, and has room for as many puts as there are calls
abbrev pub HasRoom : PlainQueue → History → Type 0
HasRoom q log = (q.kept ≡ None) × (q.placed + length log ≤ q.capacity)

-- how often a call names leaf l in a put
abbrev pub puts_leaf : ℕ → Call → ℕ
puts_leaf l (Put e) = one_if_same l e.leaf
puts_leaf l (Pop v) = 0

-- how often a call that was made named leaf l in a put
abbrev pub puts_at : ℕ → Made Call Reply → ℕ
puts_at l x = puts_leaf l x.call

-- l is a leaf that belongs to queue m
pub record IsLeafOf (g : Ground) (m l : ℕ) : Type 0 where
  pub real : l < g.leaves
  pub queue : queue_of g l ≡ m

-- each call is a put of a leaf that belongs to queue m
abbrev pub ArePutsInto : Ground → ℕ → History → Type 0
ArePutsInto g m log =
    (x : Made Call Reply) → In x log → (e : Entry) × (x.call ≡ Put e) × IsLeafOf g m e.leaf

-- no leaf is put twice, and none that the queue holds
abbrev pub PutsDiffer : PlainQueue → History → Type 0
PutsDiffer q log = (l : ℕ) → waits l q + takes l q + total (puts_at l) log ≤ 1

-- the queue is open, holds leaves that belong to queue m alone, and has room for all that do
pub record IsOpenFor (g : Ground) (m : ℕ) (q : PlainQueue) : Type 0 where
  pub unshut : q.kept ≡ None
  pub placed : q.placed ≡ length q.waiting + length q.taken
  pub capacity : q.capacity ≡ capacity_of g m g.leaves
  pub own : (e : Entry) → Holds q e → IsLeafOf g m e.leaf

-- queue m as it opens: empty, with room for all leaves that belong to it
abbrev pub opened_for : Ground → ℕ → PlainQueue
opened_for g m = empty_queue (capacity_of g m g.leaves)

-- a history of puts, as many as a team's records have into queue m, and no more than leaves belong to it
pub record MadeWithinRoom (g : Ground) (m : ℕ) (team : Team) (log : History)
    : Type 0 where
  pub puts : ArePuts log
  pub made : EachAccounts once (puts_into m) team log
  pub room : total (puts_into m) team ≤ capacity_of g m g.leaves
