-- What a worker and its hand know together, and when the hand is of the worker's search.
use Rattle.std.specs.Prelude.{◌≡◌, ◌≢◌, ℕ, ◌<◌, List, length}
use Rattle.search_machine.specs.declared.phase.Phase.TheVariants.{Done}
use Rattle.search_machine.specs.Ground.{Fits}
use Rattle.search_machine.specs.OwnRecord.{PopMade, RecordedWorker}
use Rattle.search_machine.specs.Workers.{Worker}
use Rattle.search_machine.specs.Stands.{StandsFor}
use Rattle.search_task.specs.Questions.{last_of}
use Rattle.query_core.specs.Turning.{search_of}
use Rattle.query_core.specs.Working.{Working, IsOf, Shows}
use Rattle.live_query.specs.RootClaims.{IsOwn}
use Rattle.live_query.specs.FillHands.{FillKept, FillTied}
use Rattle.live_query.specs.DrainHands.{DrainKept, DrainTied}
use Rattle.live_query.specs.SealedQueues.{SealedAgrees, SealedKept, SameRuns}
use Rattle.live_query.specs.LockedQueues.{LockedAgrees, LockedKept, SameLocks}

-- the hand in the fill part is of the worker's search
pub record FillServes (w : Working) (h : FillKept) : Type 0 where
  pub fits : Fits (search_of w 1)
  pub roots : h.roots.count ≡ length w.index.roots
  pub size : 0 < h.roots.size
  pub one_each : length w.index.nodes ≡ length w.index.roots
  pub floor : h.seen.floor ≡ last_of w.question
  pub queues : h.queues ≡ w.queues
  pub marks : length h.marks ≡ length w.index.leaves

-- the worker is not done; some record is what the hand was given, and the worker stands for it
pub record FillKnows (w : Working) (h : FillKept) : Type 0 where
  pub running : w.phase ≢ Done
  pub member : RecordedWorker
  pub shows : Shows w member.worker
  pub stands : StandsFor (search_of w 1) w.number member
  pub tied : FillTied h member.own

-- a worker and its hand of the fill part, and the same after some turns: the worker has its place, and the hand its objects
pub record FillsOn (w : Working) (h : FillKept) (v : Working) (k : FillKept) : Type 0 where
  pub place : IsOf w.question w.index w.queues w.number v
  pub roots : k.roots ≡ h.roots
  pub own : IsOwn h.roots h.drawn → IsOwn k.roots k.drawn
  pub best : k.seen.best ≡ h.seen.best
  pub floor : k.seen.floor ≡ h.seen.floor

-- a hand over as many queues as `count` tells is of the search of the worker, which shows some worker of the machine
pub record DrainServes {Q : Type 0} (count : Q → ℕ) (w : Working) (h : DrainKept Q) : Type 0 where
  pub shown : Worker
  pub shows : Shows w shown
  pub fits : Fits (search_of w 1)
  pub roots : h.roots ≡ length w.index.roots
  pub floor : h.seen.floor ≡ last_of w.question
  pub queues : count h.queues ≡ w.queues

-- this record is what the hand was given, and its worker is the one that the code's worker shows
pub record DrainsBy {Q : Type 0} (Agrees : Q → List PopMade → Type 0) (w : Working) (h : DrainKept Q) (x : RecordedWorker)
    : Type 0 where
  pub shows : Shows w x.worker
  pub stands : StandsFor (search_of w 1) w.number x
  pub tied : DrainTied Agrees h x.own

-- a later record: it is of the later worker and hand, and has the same claims and puts
pub record IsLater {Q : Type 0} (Agrees : Q → List PopMade → Type 0) (x : RecordedWorker) (w : Working) (h : DrainKept Q)
    (y : RecordedWorker) : Type 0 where
  pub known : DrainsBy Agrees w h y
  pub claims : y.own.claims ≡ x.own.claims
  pub puts : y.own.puts ≡ x.own.puts

-- a worker and its hand of the drain part, and the same after some turns: the worker has its place, the hand its objects, of the
-- queues what Same says, and whatever the record was, there is a later one
pub record DrainsOn {Q : Type 0} (Same : Q → Q → Type 0) (Agrees : Q → List PopMade → Type 0) (w : Working) (h : DrainKept Q)
    (v : Working) (k : DrainKept Q) : Type 0 where
  pub place : IsOf w.question w.index w.queues w.number v
  pub best : k.seen.best ≡ h.seen.best
  pub floor : k.seen.floor ≡ h.seen.floor
  pub queues : Same h.queues k.queues
  pub on : (x : RecordedWorker) → DrainsBy Agrees w h x → (y : RecordedWorker) × IsLater Agrees x v k y

-- over sealed runs, and over locked queues
abbrev pub SealedOn : Working → DrainKept SealedKept → Working → DrainKept SealedKept → Type 0
SealedOn w h v k = DrainsOn SameRuns SealedAgrees w h v k

abbrev pub LockedOn : Working → DrainKept LockedKept → Working → DrainKept LockedKept → Type 0
LockedOn w h v k = DrainsOn SameLocks LockedAgrees w h v k
