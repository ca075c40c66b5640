-- What the workers, their own records and the closed shared objects say together.
use Rattle.std.specs.Prelude.{◌≡◌, ℕ, ◌+◌, ◌<◌, ◌≤◌, List, ◌⊎◌, None, Some, false, cond, ◌&&◌, not, nat_eq, map, length, slice_get}
use Rattle.list_totals.specs.Totals.{total, one_if_same}
use Rattle.series_core.specs.declared.queue_words.Entry.{Entry}
use Rattle.series_core.specs.declared.queue_words.PopReply.{PopReply}
use Rattle.series_core.specs.declared.queue_words.PopReply.TheVariants.{Leaf, Closed}
use Rattle.leaf_queues.specs.PlainQueue.{PlainQueue}
use Rattle.search_machine.specs.declared.phase.Phase.TheVariants.{Done}
use Rattle.list_totals.specs.Standing.{In}
use Rattle.search_machine.specs.Ground.{Ground, start_limit}
use Rattle.search_machine.specs.Machine.{State, capacity_of}
use Rattle.search_machine.specs.Sound.{waits, takes}
use Rattle.search_machine.specs.Basics.{Between, Ordered}
use Rattle.search_machine.specs.OwnRecord.{OwnRecord, PutMade, PopMade, RecordedWorker, is_refused, WasClosed, claims_of, put_of}
use Rattle.search_machine.specs.Stands.{StandsFor}

-- how often a put placed leaf l in queue m
abbrev pub placed_of : ℕ → ℕ → PutMade → ℕ
placed_of m l p = cond (nat_eq p.queue m && not (is_refused p.reply)) (one_if_same l p.entry.leaf) 0

-- how often a reply names leaf l
abbrev pub leaf_of : ℕ → PopReply → ℕ
leaf_of l (Leaf e) = one_if_same l e.leaf
leaf_of l (Closed v) = 0

-- how often a pop took leaf l from queue m
abbrev pub popped_of : ℕ → ℕ → PopMade → ℕ
popped_of m l p = cond (nat_eq p.queue m) (leaf_of l p.reply) 0

-- how often a worker's puts name leaf l
abbrev pub puts_by : ℕ → RecordedWorker → ℕ
puts_by l x = total (put_of l) x.own.puts

-- how often a put names queue m
abbrev pub put_in : ℕ → PutMade → ℕ
put_in m p = one_if_same m p.queue

-- how many of a worker's puts name queue m
abbrev pub puts_into : ℕ → RecordedWorker → ℕ
puts_into m x = total (put_in m) x.own.puts

-- how often a worker's claims gave the number c
abbrev pub claimed_by : ℕ → RecordedWorker → ℕ
claimed_by c x = total (claims_of c) x.own.claims

-- how often a worker's puts placed leaf l in queue m
abbrev pub placed_by : ℕ → ℕ → RecordedWorker → ℕ
placed_by m l x = total (placed_of m l) x.own.puts

-- how often a worker's pops took leaf l from queue m
abbrev pub popped_by : ℕ → ℕ → RecordedWorker → ℕ
popped_by m l x = total (popped_of m l) x.own.pops

-- each worker stands for its record
abbrev pub AllStand : Ground → List RecordedWorker → Type 0
AllStand g team = (i : ℕ) (x : RecordedWorker) → slice_get team i ≡ Some x → StandsFor g i x

-- each number was claimed once at most
abbrev pub ClaimedOnce : List RecordedWorker → Type 0
ClaimedOnce team = (c : ℕ) → total (claimed_by c) team ≤ 1

-- no put of a worker was answered Shut or Filled
abbrev pub NoneRefused : List RecordedWorker → Type 0
NoneRefused team =
    (i : ℕ) (x : RecordedWorker) (p : PutMade) → slice_get team i ≡ Some x → In p x.own.puts
    → is_refused p.reply ≡ false

-- what was taken from each queue ascends by bound and leaf
abbrev pub TakenInOrder : List PlainQueue → Type 0
TakenInOrder qs = (m : ℕ) (q : PlainQueue) → slice_get qs m ≡ Some q → Ordered q.taken

-- some worker made a call of which P holds: it stands in the list that the worker's record has of such calls
pub record CameBy {X : Type 0} (team : List RecordedWorker) (list : OwnRecord → List X) (P : X → Type 0) : Type 0 where
  pub place : ℕ
  pub member : RecordedWorker
  pub at : slice_get team place ≡ Some member
  pub made : X
  pub has : In made (list member.own)
  pub such : P made

-- some worker's put of this entry named queue m
abbrev pub CameByPut : List RecordedWorker → ℕ → Entry → Type 0
CameByPut team m e = CameBy team (λ r. r.puts) (λ (p : PutMade). (p.queue ≡ m) × (p.entry ≡ e))

-- some worker's pop had the limit v
abbrev pub CameByPop : List RecordedWorker → ℕ → Type 0
CameByPop team v = CameBy team (λ r. r.pops) (λ (p : PopMade). p.limit ≡ v)

-- what the closed queue m says by the calls of all workers
pub record QueueCloses (g : Ground) (team : List RecordedWorker) (m : ℕ) (q : PlainQueue) : Type 0 where
  -- it is a queue of the plain kind, with room for the leaves that belong to it
  pub ordered : Ordered q.waiting
  pub placed : q.placed ≡ length q.waiting + length q.taken
  pub capacity : q.capacity ≡ capacity_of g m g.leaves
  -- each entry that waits or was taken came by a put, and each leaf stands among them as often as
  -- puts placed it
  pub came : (e : Entry) → In e q.waiting ⊎ In e q.taken → CameByPut team m e
  pub put : (l : ℕ) → waits l q + takes l q ≡ total (placed_by m l) team
  -- each leaf was taken as often as pops took it
  pub popped : (l : ℕ) → takes l q ≡ total (popped_by m l) team
  -- where it gave a Closed reply it is shut; the limit that it keeps is that of a pop, and what
  -- waits has a bound above that limit
  pub shut : (i : ℕ) (x : RecordedWorker) → slice_get team i ≡ Some x → WasClosed x.own m
      → (v : ℕ) × (q.kept ≡ Some v)
  pub kept : (v : ℕ) → q.kept ≡ Some v → CameByPop team v
  pub above : (v : ℕ) → q.kept ≡ Some v → (e : Entry) → In e q.waiting → v < e.bound

-- what the workers and the closed objects say
pub record Closes (g : Ground) (team : List RecordedWorker) (qs : List PlainQueue) : Type 0 where
  -- each worker stands for its record, and is done
  pub members : length team ≡ g.workers
  pub stands : AllStand g team
  pub done : (i : ℕ) (x : RecordedWorker) → slice_get team i ≡ Some x → x.worker.phase ≡ Done
  -- each number was claimed once at most, and each root child was where some claim was answered
  -- None
  pub claims : ClaimedOnce team
  pub all_claimed : (i : ℕ) (x : RecordedWorker) (c : ℕ) → slice_get team i ≡ Some x
      → In None x.own.claims → c < length g.roots → 0 < total (claimed_by c) team
  -- each reply to a read is at least the last distance and at most the starting limit
  pub reads : (i : ℕ) (x : RecordedWorker) (v : ℕ) → slice_get team i ≡ Some x → In v x.own.reads
      → Between g v
  -- there are as many closed queues as queues, and each says what it should
  pub queue_count : length qs ≡ g.queues
  pub queues : (m : ℕ) (q : PlainQueue) → slice_get qs m ≡ Some q → QueueCloses g team m q

-- what they say where no put was refused and each queue's entries were taken in order
pub record ClosesStraight (g : Ground) (team : List RecordedWorker) (qs : List PlainQueue) : Type 0 where
  pub closes : Closes g team qs
  pub placed : NoneRefused team
  pub order : TakenInOrder qs

-- the state that the workers and the closed queues make: all root children are claimed
abbrev pub final : Ground → List RecordedWorker → List PlainQueue → State
final g team queues = record {
  word = start_limit g;
  claimed = length g.roots;
  queues = queues;
  workers = map (λ (x : RecordedWorker). x.worker) team;
}
