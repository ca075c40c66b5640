-- The searchers before, between and after the two parts, and the records of their calls.
use Rattle.std.specs.Prelude.{◌≡◌, ◌≢◌, ℕ, ◌<◌, List, None, Some, Bool, false, length, map, replicate, slice_get, slice_index_or}
use Rattle.list_totals.specs.Totals.{total}
use Rattle.list_totals.specs.Standing.{In}
use Rattle.best_word.specs.Passes.{Best}
use Rattle.series_core.specs.declared.queue_words.Entry.{Entry}
use Rattle.sealed_runs.specs.Entries.{Run, run_at}
use Rattle.subtree_build.specs.Index.{IndexParts}
use Rattle.search_machine.specs.declared.phase.Phase.TheVariants.{Done}
use Rattle.search_machine.specs.declared.outcome.QueueLine.{QueueLine}
use Rattle.search_machine.specs.Ground.{Ground, start_limit}
use Rattle.search_machine.specs.Workers.{fills}
use Rattle.search_machine.specs.Machine.{State}
use Rattle.search_machine.specs.Outcome.{outcome}
use Rattle.search_machine.specs.Legal.{Legal, IsStraight}
use Rattle.search_machine.specs.OwnRecord.{RecordedWorker}
use Rattle.search_machine.specs.Stands.{StandsFor}
use Rattle.search_machine.specs.Closes.{ClaimedOnce, claimed_by}
use Rattle.search_task.specs.Questions.{CanBeSearched, Question, last_of, search_over, view_in}
use Rattle.query_core.specs.Teams.{AreOver, EndsIn}
use Rattle.query_core.specs.Working.{IsOf, Shows, Working, opens_as}
use Rattle.live_query.specs.declared.searcher.Searcher.{Searcher}
use Rattle.live_query.specs.Marked.{AreMarked, IsRunOf}
use Rattle.live_query.specs.Resting.{Kept}
use Rattle.live_query.specs.Holding.{Held, fresh_held}
use Rattle.live_query.specs.RootClaims.{Roots}
use Rattle.live_query.specs.FillHands.{FillKept, FillTied}
use Rattle.live_query.specs.DrainHands.{DrainKept, drain_over}
use Rattle.live_query.specs.SealedQueues.{SealedKept}
use Rattle.live_query.specs.Knowing.{DrainServes, FillsOn, SealedOn}

-- a searcher that holds its draws; one between the parts, and in the fill part; one that drains queues, and one that drains sealed runs
abbrev pub Between : Type 0
Between = Searcher Working Held

abbrev pub Resting : Type 0
Resting = Searcher Working Kept

abbrev pub Filling : Type 0
Filling = Searcher Working FillKept

abbrev pub Drainer : Type 0 → Type 0
Drainer Q = Searcher Working (DrainKept Q)

abbrev pub Draining : Type 0
Draining = Drainer SealedKept

-- each searcher at its place, before some turns and after them: On holds of its worker and its hand before and after
abbrev pub EachOn : {H : Type 0} → (Working → H → Working → H → Type 0) → List (Searcher Working H) → List (Searcher Working H) → Type 0
EachOn {H} On old new =
    (i : ℕ) (d : Searcher Working H) → i < length old
    → On (slice_index_or old i d).worker (slice_index_or old i d).hand
    (slice_index_or new i d).worker (slice_index_or new i d).hand

-- so for the fill part, and for the drain part
abbrev pub AllFillOn : List Filling → List Filling → Type 0
AllFillOn old new = EachOn FillsOn old new

abbrev pub AllDrainOn : List Draining → List Draining → Type 0
AllDrainOn old new = EachOn SealedOn old new

-- the searcher with its draws of these root children, over `queues` queues, with no mark of any of `leaves` leaves
abbrev pub filling : Roots → ℕ → ℕ → Between → Filling
filling roots queues leaves c = record {
  worker = c.worker;
  hand = record {
    roots = roots;
    drawn = c.hand.drawn;
    seen = c.hand.seen;
    queues = queues;
    marks = replicate leaves false;
  };
  number = c.number;
  turn = c.turn;
  apart = tt;
}

-- the searcher that lets its draws go
abbrev pub resting : Filling → Resting
resting c = record {
  worker = c.worker;
  hand = record { seen = c.hand.seen; marks = c.hand.marks };
  number = c.number;
  turn = c.turn;
  apart = tt;
}

-- a searcher that may drain its queues: its hand is of its search, and its worker has filled and is not done
pub record MayDrain {Q : Type 0} (count : Q → ℕ) (c : Drainer Q) : Type 0 where
  pub serves : DrainServes count c.worker c.hand
  pub filled : fills c.worker.phase ≡ false
  pub running : c.worker.phase ≢ Done

-- searcher i with its hand over new queues, where there are `roots` root children
pub record IsEquipped {Q : Type 0} (IsNew : ℕ → Q → Type 0) (roots i : ℕ) (c : Resting) (d : Drainer Q) : Type 0 where
  pub worker : d.worker ≡ c.worker
  pub queues : Q
  pub hand : d.hand ≡ drain_over c.hand.seen roots queues
  pub new : IsNew i queues

-- so with each searcher
pub record AreEquipped {Q : Type 0} (IsNew : ℕ → Q → Type 0) (roots : ℕ) (team : List Resting) (cells : List (Drainer Q)) : Type 0 where
  pub count : length cells ≡ length team
  pub each : (i : ℕ) (c : Resting) (d : Drainer Q) → slice_get team i ≡ Some c → slice_get cells i ≡ Some d
      → IsEquipped IsNew roots i c d

-- the marks of all searchers
abbrev pub marks_of : List Resting → List (List Bool)
marks_of team = map (λ (c : Resting). c.hand.marks) team

-- the entries of all leaves that some searcher put
abbrev pub AreEntriesOf : Question → IndexParts → List Resting → List Entry → Type 0
AreEntriesOf a ix team es = AreMarked (view_in a) ix (marks_of team) (length ix.leaves) es

-- each run m of `queues` has those of the leaves that belong to queue m
abbrev pub AreRunsOf : Question → IndexParts → List Resting → ℕ → List Run → Type 0
AreRunsOf a ix team queues runs =
    (m : ℕ) → m < queues
    → IsRunOf (view_in a) ix (marks_of team) queues m (run_at runs m).entries

-- searcher i of a search over m queues as it opens: it has drawn nothing
pub record IsOpen (a : Question) (ix : IndexParts) (m : ℕ) (roots : Roots) (best : Best) (i : ℕ) (c : Between) : Type 0 where
  pub place : IsOf a ix m i c.worker
  pub shows : Shows c.worker (opens_as (search_over a ix 1 m) i)
  pub hand : c.hand ≡ fresh_held roots best (last_of a)

-- a search over m queues as it opens: the root children to claim are those of the index, the bound word is the starting limit, and
-- each searcher is open
pub record Opens (a : Question) (ix : IndexParts) (m : ℕ) (roots : Roots) (best : Best) (team : List Between) : Type 0 where
  pub searches : CanBeSearched a ix
  pub count : roots.count ≡ length ix.roots
  pub size : 0 < roots.size
  pub callers : roots.counter.callers ≡ length team
  pub start : best.start ≡ start_limit (search_over a ix 1 m)
  pub each : (i : ℕ) (c : Between) → slice_get team i ≡ Some c → IsOpen a ix m roots best i c

-- searcher i after the fill part: it stands for this record of its calls, to which its marks are tied
pub record HasFilled (a : Question) (ix : IndexParts) (m : ℕ) (best : Best) (i : ℕ) (c : Resting)
    (x : RecordedWorker) : Type 0 where
  pub place : IsOf a ix m i c.worker
  pub filled : fills c.worker.phase ≡ false
  pub running : c.worker.phase ≢ Done
  pub word : c.hand.seen.best ≡ best
  pub floor : c.hand.seen.floor ≡ last_of a
  pub shows : Shows c.worker x.worker
  pub stands : StandsFor (search_over a ix 1 m) i x
  pub hand : FillKept
  pub rests : c.hand ≡ record { seen = hand.seen; marks = hand.marks }
  pub tied : FillTied hand x.own

-- all searchers of a search over m queues after the fill part, with the records of their calls: no root child was claimed twice, and
-- each was claimed where a claim was answered None
pub record AllFilled (a : Question) (ix : IndexParts) (m : ℕ) (best : Best) (team : List Resting) : Type 0 where
  pub searches : CanBeSearched a ix
  pub some : 0 < m
  pub start : best.start ≡ start_limit (search_over a ix 1 m)
  pub records : List RecordedWorker
  pub count : length records ≡ length team
  pub each : (i : ℕ) (c : Resting) (x : RecordedWorker) → slice_get team i ≡ Some c
      → slice_get records i ≡ Some x → HasFilled a ix m best i c x
  pub once : ClaimedOnce records
  pub all_claimed : (i : ℕ) (x : RecordedWorker) (c : ℕ) → slice_get records i ≡ Some x
      → In None x.own.claims → c < length ix.nodes → 0 < total (claimed_by c) records

-- the workers and lines with which a search ends: they are those of a state whose outcome is legal and straight
pub record EndsRight (g : Ground) (ws : List Working) (ls : List QueueLine) : Type 0 where
  pub state : State
  pub ends : EndsIn ws ls state
  pub legal : Legal g (outcome g state)
  pub straight : IsStraight (outcome g state)

-- the workers and lines with which a search over m queues ends: the workers are of the search, and they end right
pub record HaveDrained (a : Question) (ix : IndexParts) (m : ℕ) (ws : List Working) (ls : List QueueLine) : Type 0 where
  pub over : AreOver a ix ws
  pub ends : EndsRight (search_over a ix (length ws) m) ws ls
