-- When a worker stands for its own record, whatever the other workers did.
use Rattle.std.specs.Prelude.{◌≡◌, ◌≢◌, ℕ, ◌+◌, ◌<◌, ◌≤◌, List, [], ◌⊎◌, None, Some, length}
use Rattle.list_totals.specs.Totals.{total, times, one_if_same}
use Rattle.series_core.specs.declared.pair.Pair.{Pair}
use Rattle.search_machine.specs.declared.phase.Phase.{Phase}
use Rattle.search_machine.specs.declared.phase.Phase.TheVariants.{Claim, Look, Give, Late, Aim, Pop, Offer, Done}
use Rattle.search_machine.specs.declared.phase.Onward.{Onward}
use Rattle.search_machine.specs.declared.phase.Onward.TheVariants.{Look as ToLook, Aim as ToAim}
use Rattle.list_totals.specs.Standing.{In}
use Rattle.search_machine.specs.Ground.{Ground}
use Rattle.search_machine.specs.Workers.{Worker, round_queue}
use Rattle.search_machine.specs.Sound.{ListUnder, held}
use Rattle.search_machine.specs.OwnRecord.{PutMade, PopMade, OwnRecord, RecordedWorker, Below, Near, Far, WasPut, WasRefused, WasTaken, WasClosed, PutRight, Floored, Different, put_of}

-- how often leaf l is in the hand in Give, where it is not put yet
abbrev pub in_give : ℕ → Phase → ℕ
in_give l (Give m) = one_if_same l m
in_give l _ = 0

-- how often leaf l is in the hand in Late, where its put was refused
abbrev pub in_late : ℕ → Phase → ℕ
in_late l (Late m) = one_if_same l m
in_late l _ = 0

-- how often leaf l stands among the puts, in the rest and, outside Late, in the hand
abbrev pub stands_in : OwnRecord → Worker → ℕ → ℕ
stands_in r w l = total (put_of l) r.puts + times l w.rest + in_give l w.phase

-- one of worker i's claims was answered None, its rest is empty, and it has a Closed reply from
-- each of the queues at the first j places of its round
pub record OwnDrains (g : Ground) (r : OwnRecord) (i j : ℕ) (ls : List ℕ) : Type 0 where
  pub ended : In None r.claims
  pub rest : ls ≡ []
  pub closed : (x : ℕ) → x < j → WasClosed r (round_queue g i x)

-- a worker that goes on to Aim drains
abbrev pub OwnOnward : Ground → OwnRecord → ℕ → List ℕ → Onward → Type 0
OwnOnward g r i ls ToLook = Unit {0}
OwnOnward g r i ls (ToAim j) = OwnDrains g r i j ls

-- what holds of worker i by its phase: in Claim its rest is empty; the bound of the leaf in its
-- hand is not above the reply to one of its reads; in Late that leaf is in one of its puts that was
-- answered Shut or Filled; the limit that it holds in Pop is the reply to one of its reads; in
-- Offer its list holds k pairs; past its fill part it drains; where it is done, each queue gave it
-- a Closed reply
abbrev pub OwnPhase : Ground → OwnRecord → ℕ → List ℕ → List Pair → Phase → Type 0
OwnPhase g r i ls ps Claim = ls ≡ []
OwnPhase g r i ls ps Look = Unit {0}
OwnPhase g r i ls ps (Give l) = Near g r l
OwnPhase g r i ls ps (Late l) = Near g r l × WasRefused r l
OwnPhase g r i ls ps (Aim j) = OwnDrains g r i j ls
OwnPhase g r i ls ps (Pop j v) = OwnDrains g r i j ls × In v r.reads
OwnPhase g r i ls ps (Offer next) = (g.k ≤ length ps) × OwnOnward g r i ls next
OwnPhase g r i ls ps Done = OwnDrains g r i g.queues ls

-- worker i, which is w, stands for its record r
pub record Stands (g : Ground) (i : ℕ) (w : Worker) (r : OwnRecord) : Type 0 where
  -- each leaf below a root child that it claimed is the start leaf, in its rest, in its hand, in
  -- one of its puts, or has a bound above the reply to one of its reads
  pub covers : (l : ℕ) → Below g r l
      → (g.start ≡ Some l) ⊎ (0 < held l w) ⊎ WasPut r l ⊎ Far g r l
  pub puts : (p : PutMade) → In p r.puts → PutRight g r p
  -- the limit of each of its pops is the reply to one of its reads, and each pop names a queue
  pub pops : (p : PopMade) → In p r.pops → In p.limit r.reads × (p.queue < g.queues)
  -- each number that its claims gave is that of a root child
  pub claims : (c : ℕ) → In (Some c) r.claims → c < length g.roots
  -- its scanned leaves are those of its opening, the leaves that its Leaf replies name, and leaves
  -- of its puts that were answered Shut or Filled
  pub scanned : (l : ℕ) → 0 < times l w.scanned
      → ((i ≡ 0) × (g.start ≡ Some l)) ⊎ WasTaken r l ⊎ WasRefused r l
  -- it scanned each leaf that a Leaf reply names, and the leaf of its opening, and no leaf twice
  pub taken : (l : ℕ) → l < g.leaves → WasTaken r l → 0 < times l w.scanned
  pub opening : (l : ℕ) → i ≡ 0 → g.start ≡ Some l → 0 < times l w.scanned
  pub single : (l : ℕ) → times l w.scanned ≤ 1
  -- each leaf of a put that was answered Shut or Filled is scanned, or in its hand in Late, or has
  -- a bound above the reply to one of its reads
  pub refused : (l : ℕ) → WasRefused r l
      → (0 < times l w.scanned) ⊎ (0 < in_late l w.phase) ⊎ Far g r l
  -- its list holds pairs of the plain list, of different series, each a member of a leaf that it
  -- scanned; where all its reads were answered at least the last distance, each pair of the answer
  -- whose leaf it scanned is in its list
  pub list : ListUnder g (Floored g r) w.scanned w.list
  -- where the numbers that its claims gave are different, no leaf stands twice among its puts, its
  -- rest and, outside Late, its hand
  pub once : Different r → (l : ℕ) → stands_in r w l ≤ 1
  -- each leaf in its rest or hand is a leaf other than the start leaf, below a root child that it
  -- claimed
  pub held : (l : ℕ) → 0 < held l w → (g.start ≢ Some l) × Below g r l
  pub phase : OwnPhase g r i w.rest w.list w.phase

-- member i stands for its record
abbrev pub StandsFor : Ground → ℕ → RecordedWorker → Type 0
StandsFor g i x = Stands g i x.worker x.own
