-- What calls made of a queue of leaves: how often each leaf was placed and taken, what shut it, and what stays in
-- order. It speaks of counts and order alone, never of what a call does next.
use Rattle.std.specs.Prelude.{◌≡◌, ℕ, ◌+◌, ◌<◌, ◌≤◌, List, ◌++◌, ◌⊎◌, Some, length}
use Rattle.list_totals.specs.Totals.{total, one_if_same}
use Rattle.list_totals.specs.Standing.{In}
use Rattle.series_core.specs.declared.queue_words.Entry.{Entry}
use Rattle.series_core.specs.declared.queue_words.PutReply.TheVariants.{Placed, Shut, Filled}
use Rattle.series_core.specs.declared.queue_words.PopReply.TheVariants.{Closed}
use Rattle.turn_lock.specs.declared.object.Entry.{Entry as Made}
use Rattle.turn_lock.specs.History.{IsLegal, state_after}
use Rattle.leaf_queues.specs.declared.calls.Call.{Call}
use Rattle.leaf_queues.specs.declared.calls.Call.TheVariants.{Put, Pop}
use Rattle.leaf_queues.specs.declared.calls.Reply.{Reply}
use Rattle.leaf_queues.specs.declared.calls.Reply.TheVariants.{Put as PutAnswer, Pop as PopAnswer}
use Rattle.leaf_queues.specs.PlainQueue.{PlainQueue, next}
use Rattle.search_machine.specs.Basics.{Ordered}
use Rattle.search_machine.specs.Sound.{waits, takes}
use Rattle.search_machine.specs.Closes.{leaf_of}

-- a history of calls on a queue
abbrev pub History : Type 0
History = List (Made Call Reply)

-- what a queue answers is the same whoever calls
abbrev pub answers : PlainQueue → ℕ → Call → PlainQueue × Reply
answers q caller call = next q call

-- a legal history leads from the queue q to the queue r
pub record Leads (q : PlainQueue) (log : History) (r : PlainQueue) : Type 0 where
  pub legal : IsLegal answers q log
  pub leads : r ≡ state_after answers q log

-- how often a call with this reply placed leaf l
abbrev pub places_leaf : ℕ → Call → Reply → ℕ
places_leaf l (Put e) (PutAnswer Placed) = one_if_same l e.leaf
places_leaf l (Put e) (PutAnswer (Shut v)) = 0
places_leaf l (Put e) (PutAnswer (Filled c)) = 0
places_leaf l (Put e) (PopAnswer r) = 0
places_leaf l (Pop v) r = 0

-- how often a reply gave leaf l
abbrev pub gives_leaf : ℕ → Reply → ℕ
gives_leaf l (PutAnswer r) = 0
gives_leaf l (PopAnswer r) = leaf_of l r

-- how often a call that was made placed leaf l
abbrev pub placed_at : ℕ → Made Call Reply → ℕ
placed_at l x = places_leaf l x.call x.reply

-- how often a call that was made took leaf l
abbrev pub taken_at : ℕ → Made Call Reply → ℕ
taken_at l x = gives_leaf l x.reply

-- each call is a put
abbrev pub ArePuts : History → Type 0
ArePuts log = (x : Made Call Reply) → In x log → (e : Entry) × (x.call ≡ Put e)

-- each call is a pop
abbrev pub ArePops : History → Type 0
ArePops log = (x : Made Call Reply) → In x log → (v : ℕ) × (x.call ≡ Pop v)

-- some call placed the entry
abbrev pub PlacedIn : History → Entry → Type 0
PlacedIn log e =
    (x : Made Call Reply) × In x log × (x.call ≡ Put e) × (x.reply ≡ PutAnswer Placed)

-- some call was a pop with the limit v
abbrev pub PoppedIn : History → ℕ → Type 0
PoppedIn log v = (x : Made Call Reply) × In x log × (x.call ≡ Pop v)

-- an entry waits in the queue or was taken from it
abbrev pub Holds : PlainQueue → Entry → Type 0
Holds q e = In e q.waiting ⊎ In e q.taken

-- what was taken, and behind it what waits, ascends
abbrev pub Ascends : PlainQueue → Type 0
Ascends q = Ordered (q.taken ++ q.waiting)

-- a queue as calls leave it
pub record Shaped (q : PlainQueue) : Type 0 where
  -- what waits is in order
  pub ordered : Ordered q.waiting
  -- as many entries were placed as wait or were taken
  pub placed : q.placed ≡ length q.waiting + length q.taken
  -- where it is shut, each entry that waits is above the limit that it keeps
  pub above : (v : ℕ) → q.kept ≡ Some v → (e : Entry) → In e q.waiting → v < e.bound

-- what one call with its reply made of the queue q, which is r after it
pub record Stepped (q r : PlainQueue) (call : Call) (reply : Reply) : Type 0 where
  pub shaped : Shaped q → Shaped r
  pub capacity : r.capacity ≡ q.capacity
  -- how often a leaf waits or was taken grows by how often it was placed
  pub holds : (l : ℕ) → waits l r + takes l r ≡ waits l q + takes l q + places_leaf l call reply
  -- how often a leaf was taken grows by how often it was given
  pub takes : (l : ℕ) → takes l r ≡ takes l q + gives_leaf l reply
  -- an entry of r is one of q, or was placed by this call
  pub came : (e : Entry) → Holds r e
      → Holds q e ⊎ ((call ≡ Put e) × (reply ≡ PutAnswer Placed))
  -- a Closed reply names the kept limit; a limit once kept stays; one that is new is this pop's
  pub shut : (v : ℕ) → reply ≡ PopAnswer (Closed v) → r.kept ≡ Some v
  pub keeps : (v : ℕ) → q.kept ≡ Some v → r.kept ≡ Some v
  pub kept : (v : ℕ) → r.kept ≡ Some v → (q.kept ≡ Some v) ⊎ (call ≡ Pop v)
  -- a pop keeps the order of what was taken before what waits; a put takes and shuts nothing
  pub drains : (v : ℕ) → call ≡ Pop v → Ascends q → Ascends r
  pub fills : (e : Entry) → call ≡ Put e → (r.taken ≡ q.taken) × (r.kept ≡ q.kept)
  -- a put is Shut where the queue keeps that limit, and Filled where it is full
  pub was_shut : (v : ℕ) → reply ≡ PutAnswer (Shut v) → q.kept ≡ Some v
  pub was_full : (c : ℕ) → reply ≡ PutAnswer (Filled c) → q.capacity ≤ q.placed

-- what a history made of the queue q, which is r after it
pub record Past (q r : PlainQueue) (log : History) : Type 0 where
  pub shaped : Shaped q → Shaped r
  pub capacity : r.capacity ≡ q.capacity
  -- how often a leaf waits or was taken grows by how often it was placed
  pub holds : (l : ℕ) → waits l r + takes l r ≡ waits l q + takes l q + total (placed_at l) log
  -- how often a leaf was taken grows by how often it was given
  pub takes : (l : ℕ) → takes l r ≡ takes l q + total (taken_at l) log
  -- an entry of r is one of q, or some call placed it
  pub came : (e : Entry) → Holds r e → Holds q e ⊎ PlacedIn log e
  -- a Closed reply names the kept limit; a limit once kept stays; one that is new is some pop's
  pub shut : (x : Made Call Reply) (v : ℕ) → In x log → x.reply ≡ PopAnswer (Closed v)
      → r.kept ≡ Some v
  pub keeps : (v : ℕ) → q.kept ≡ Some v → r.kept ≡ Some v
  pub kept : (v : ℕ) → r.kept ≡ Some v → (q.kept ≡ Some v) ⊎ PoppedIn log v
  -- pops alone keep the order of what was taken and what waits; puts alone take and shut nothing
  pub drains : ArePops log → Ascends q → Ascends r
  pub fills : ArePuts log → (r.taken ≡ q.taken) × (r.kept ≡ q.kept)
