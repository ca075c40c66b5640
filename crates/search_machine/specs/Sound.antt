-- What holds of the state at each moment of each schedule.
use Rattle.std.specs.Prelude.{◌≡◌, ℕ, ◌+◌, ◌<◌, ◌≤◌, List, [], ◌⊎◌, Some, true, is_some, length, drop, slice_get}
use Rattle.list_totals.specs.Totals.{total, times, one_if_same}
use Rattle.series_core.specs.Order.{Ascending, Among}
use Rattle.series_core.specs.declared.pair.Pair.{Pair}
use Rattle.series_core.specs.declared.queue_words.Entry.{Entry}
use Rattle.leaf_queues.specs.PlainQueue.{PlainQueue}
use Rattle.search_machine.specs.declared.phase.Phase.{Phase}
use Rattle.search_machine.specs.declared.phase.Phase.TheVariants.{Claim, Look, Give, Late, Aim, Pop, Offer, Done}
use Rattle.search_machine.specs.declared.phase.Onward.{Onward}
use Rattle.search_machine.specs.declared.phase.Onward.TheVariants.{Look as ToLook, Aim as ToAim}
use Rattle.list_totals.specs.Standing.{In}
use Rattle.search_machine.specs.Basics.{Between, EntryRight, Ordered, entered}
use Rattle.search_machine.specs.Ground.{Ground, plain, answer, last, start_limit}
use Rattle.search_machine.specs.Machine.{State, capacity_of}
use Rattle.search_machine.specs.Workers.{Worker, round_queue, without}

-- Where a leaf is.

-- how often leaf l is in the hand of a worker in this phase
abbrev pub in_hand : ℕ → Phase → ℕ
in_hand l (Give m) = one_if_same l m
in_hand l (Late m) = one_if_same l m
in_hand l _ = 0

-- how often leaf l is in the worker's rest or hand
abbrev pub held : ℕ → Worker → ℕ
held l w = times l w.rest + in_hand l w.phase

-- how often the worker scanned leaf l
abbrev pub scans : ℕ → Worker → ℕ
scans l w = times l w.scanned

-- how often leaf l waits in the queue
abbrev pub waits : ℕ → PlainQueue → ℕ
waits l q = entered l q.waiting

-- how often leaf l was taken from the queue
abbrev pub takes : ℕ → PlainQueue → ℕ
takes l q = entered l q.taken

-- how often leaf l stands below the root children from number c on, the start leaf left out
abbrev pub unclaimed : Ground → ℕ → ℕ → ℕ
unclaimed g c l = total (λ (ls : List ℕ). times l (without g.start ls)) (drop c g.roots)

-- in how many places leaf l is: below an unclaimed root child, in a rest or hand, waiting, scanned
abbrev pub places : Ground → State → ℕ → ℕ
places g s l =
    unclaimed g s.claimed l + total (held l) s.workers + total (waits l) s.queues
    + total (scans l) s.workers

-- A worker.

-- the list of a worker that scanned these leaves, where P says that the limits with which it
-- scanned were at least the last distance
pub record ListUnder (g : Ground) (P : Type 0) (scanned : List ℕ) (ps : List Pair) : Type 0 where
  -- it holds pairs of the plain list, of different series
  pub ascending : Ascending ps
  pub known : Among ps (plain g)
  -- each pair is that of a member of a leaf that was scanned
  pub from : (p : Pair) → In p ps
      → (l : ℕ) × (0 < times l scanned) × (0 < times p.number (g.members l))
  -- each pair of the answer whose leaf was scanned is in the list
  pub full : P → (p : Pair) (l : ℕ) → In p (answer g) → 0 < times l scanned
      → 0 < times p.number (g.members l) → In p ps

-- the list of a worker that scanned these leaves, each with a limit of at least the last distance
abbrev pub ListSound : Ground → List ℕ → List Pair → Type 0
ListSound g scanned ps = ListUnder g (Unit {0}) scanned ps

-- queue m is shut
abbrev pub IsShut : List PlainQueue → ℕ → Type 0
IsShut qs m = (q : PlainQueue) → slice_get qs m ≡ Some q → is_some q.kept ≡ true

-- all root children are claimed, the rest is empty, and the queues at the first j places of worker
-- i's round are shut
pub record Drains (g : Ground) (c : ℕ) (qs : List PlainQueue) (i j : ℕ) (ls : List ℕ) : Type 0 where
  pub claimed : length g.roots ≤ c
  pub rest : ls ≡ []
  pub shut : (x : ℕ) → x < j → IsShut qs (round_queue g i x)

-- a worker that goes on to Aim drains, at a place of its round
abbrev pub OnwardSound : Ground → ℕ → List PlainQueue → ℕ → List ℕ → Onward → Type 0
OnwardSound g c qs i ls ToLook = Unit {0}
OnwardSound g c qs i ls (ToAim j) = Drains g c qs i j ls × (j < g.queues)

-- what holds of worker i by its phase: in Claim its rest is empty; the leaf in its hand has a bound
-- not above the starting limit; the limit that it holds in Pop is one that may be read; in Offer
-- its list holds k pairs; past its fill part it drains; where it is done, every queue is shut
abbrev pub PhaseSound : Ground → ℕ → List PlainQueue → ℕ → List ℕ → List Pair → Phase → Type 0
PhaseSound g c qs i ls ps Claim = ls ≡ []
PhaseSound g c qs i ls ps Look = Unit {0}
PhaseSound g c qs i ls ps (Give l) = g.bound l ≤ start_limit g
PhaseSound g c qs i ls ps (Late l) = g.bound l ≤ start_limit g
PhaseSound g c qs i ls ps (Aim j) = Drains g c qs i j ls × (j < g.queues)
PhaseSound g c qs i ls ps (Pop j v) = Drains g c qs i j ls × (j < g.queues) × Between g v
PhaseSound g c qs i ls ps (Offer next) = (g.k ≤ length ps) × OnwardSound g c qs i ls next
PhaseSound g c qs i ls ps Done = Drains g c qs i g.queues ls

-- what holds of worker i where c root children are claimed
pub record WorkerSound (g : Ground) (c : ℕ) (qs : List PlainQueue) (i : ℕ) (w : Worker)
    : Type 0 where
  pub list : ListSound g w.scanned w.list
  -- each leaf that it scanned is the start leaf or has a bound not above the starting limit
  pub near : (l : ℕ) → 0 < times l w.scanned → (g.start ≡ Some l) ⊎ (g.bound l ≤ start_limit g)
  -- worker 0 has scanned the start leaf; since no leaf is in two places, no other worker has, and
  -- it stands in no rest, hand or queue
  pub start : (l : ℕ) → i ≡ 0 → g.start ≡ Some l → 0 < times l w.scanned
  pub phase : PhaseSound g c qs i w.rest w.list w.phase

-- A queue.

-- what holds of queue m
pub record QueueSound (g : Ground) (m : ℕ) (q : PlainQueue) : Type 0 where
  pub ordered : Ordered q.waiting
  pub waiting : (e : Entry) → In e q.waiting → EntryRight g m e
  pub taken : (e : Entry) → In e q.taken → EntryRight g m e
  -- as many puts were placed as entries wait or were taken, and there is room for the queue's
  -- leaves
  pub placed : q.placed ≡ length q.waiting + length q.taken
  pub capacity : q.capacity ≡ capacity_of g m g.leaves
  -- where it is shut, its limit is one that may be read, and each entry that waits in it has a
  -- bound above the last distance
  pub kept : (v : ℕ) → q.kept ≡ Some v → Between g v
  pub above : (v : ℕ) → q.kept ≡ Some v → (e : Entry) → In e q.waiting → last g < e.bound

-- a sound state
pub record Sound (g : Ground) (s : State) : Type 0 where
  pub word : Between g s.word
  -- no leaf is in two places, and what is in a place is a leaf
  pub once : (l : ℕ) → places g s l ≤ 1
  pub real : (l : ℕ) → 0 < places g s l → l < g.leaves
  -- a leaf that is in no place was cut: it has a bound above the last distance
  pub cut : (l : ℕ) → l < g.leaves → places g s l ≡ 0 → last g < g.bound l
  -- each leaf that was taken from a queue is scanned, and none was taken twice
  pub taken : (l : ℕ) → total (takes l) s.queues ≤ total (scans l) s.workers
  pub workers : (i : ℕ) (w : Worker) → slice_get s.workers i ≡ Some w
      → WorkerSound g s.claimed s.queues i w
  pub queues : (m : ℕ) (q : PlainQueue) → slice_get s.queues m ≡ Some q → QueueSound g m q
  pub queue_count : length s.queues ≡ g.queues
  pub worker_count : length s.workers ≡ g.workers
