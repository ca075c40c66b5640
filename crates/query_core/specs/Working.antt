-- A worker as its own code keeps it: with one mark a leaf in place of the list of the leaves that it scanned.
use Rattle.std.specs.Prelude.{◌≡◌, ℕ, zero, suc, ◌<◌, ◌≤◌, List, [], Option, Bool, true, false, not, length, map, nat_eq, slice_index_or}
use Rattle.std.specs.List.{IsDistinct}
use Rattle.list_totals.specs.Totals.{times}
use Rattle.list_totals.specs.Standing.{In}
use Rattle.series_core.specs.Order.{Ascending}
use Rattle.series_core.specs.Best.{Best}
use Rattle.series_core.specs.Distance.{squared_distance}
use Rattle.series_core.specs.declared.pair.Pair.{Pair}
use Rattle.lower_bound.specs.Bound.{View}
use Rattle.subtree_build.specs.Index.{IndexParts}
use Rattle.subtree_build.specs.Members.{series_at}
use Rattle.subtree_build.specs.Start.{start_leaf_of}
use Rattle.search_machine.specs.declared.phase.Phase.{Phase}
use Rattle.search_machine.specs.declared.phase.Phase.TheVariants.{Claim, Look, Give, Late, Aim, Pop, Offer, Done}
use Rattle.query_core.specs.declared.stage.Stage.{Stage}
use Rattle.query_core.specs.declared.stage.Stage.TheVariants.{Claim as ClaimStage, Look as LookStage, Give as GiveStage, Late as LateStage, Aim as AimStage, Pop as PopStage, Offer as OfferStage, Done as DoneStage}
use Rattle.search_machine.specs.declared.phase.Onward.{Onward}
use Rattle.search_machine.specs.declared.phase.Onward.TheVariants.{Look as ToLook, Aim as ToAim}
use Rattle.search_machine.specs.Ground.{Ground, pair_of, opening}
use Rattle.search_machine.specs.Workers.{Worker, is_new, leader, idle}
use Rattle.search_machine.specs.Outcome.{is_start}
use Rattle.search_task.specs.Questions.{Question, CanBeSearched, view_in, search_over}
use Rattle.query_core.specs.Walks.{IsEntry, Walked}
use Rattle.search_limits.specs.declared.numbers.TheConstants.{MOST_QUEUES, MOST_WORKERS}

-- a worker: the question and the index, its number, the number of queues, its phase, the leaves that it has still to
-- look at, its list, for each leaf whether it scanned it, and whether it shares limits of portions
pub record Working : Type 0 where
  pub question : Question
  pub index : IndexParts
  pub number : ℕ
  pub queues : ℕ
  pub phase : Phase
  pub rest : List ℕ
  pub list : List Pair
  pub marks : List Bool
  pub shares : Bool

-- the worker of these parts
abbrev pub working : Question → IndexParts → ℕ → ℕ → Phase → List ℕ → List Pair → List Bool → Bool → Working
working a ix i m phase rest list marks shares = record {
  question = a;
  index = ix;
  number = i;
  queues = m;
  phase = phase;
  rest = rest;
  list = list;
  marks = marks;
  shares = shares;
}

-- whether leaf l has a mark
abbrev pub is_marked : List Bool → ℕ → Bool
is_marked marks l = slice_index_or marks l false

-- the worker of the machine that the code's worker is: in the same phase, with the same rest and list, and a leaf is new to
-- it where the leaf has no mark
pub record Shows (w : Working) (m : Worker) : Type 0 where
  pub phase : m.phase ≡ w.phase
  pub rest : m.rest ≡ w.rest
  pub list : m.list ≡ w.list
  pub marks : (l : ℕ) → l < length w.marks → is_new l m ≡ not (is_marked w.marks l)

-- a list of pairs of different series, each with its distance, whose leaves have marks
pub record IsFound (g : Ground) (marks : List Bool) (ps : List Pair) : Type 0 where
  pub ascending : Ascending ps
  pub known : (p : Pair) → In p ps → (p.number < g.count) × (p ≡ pair_of g p.number)
  pub from : (p : Pair) (l : ℕ) → In p ps → 0 < times p.number (g.members l)
      → is_marked marks l ≡ true

-- the pairs ascend, each is of a series of the collection with its distance, and no two are of one series
pub record HoldsSeries (a : Question) (ps : List Pair) : Type 0 where
  pub ascending : Ascending ps
  pub known : (p : Pair) → In p ps → (p.number < length a.collection.series)
      × (p.distance ≡ squared_distance (series_at a.collection p.number) a.query)
  pub different : IsDistinct nat_eq (map (λ p. p.number) ps)

-- a queue at a place of a round, where there is one
abbrev pub OnwardInRange : ℕ → Onward → Type 0
OnwardInRange queues ToLook = Unit {0}
OnwardInRange queues (ToAim j) = j < queues

-- the machine's phase of a stage
abbrev pub phase_of : Stage → Phase
phase_of ClaimStage = Claim
phase_of LookStage = Look
phase_of (GiveStage e) = Give e.leaf
phase_of (LateStage e) = Late e.leaf
phase_of (AimStage j) = Aim j
phase_of (PopStage j v) = Pop j v
phase_of (OfferStage next) = Offer next
phase_of DoneStage = Done

-- the leaf in the hand is a leaf with its bound, and the place of the round is there
abbrev pub StageInRange : View → IndexParts → ℕ → Stage → Type 0
StageInRange view ix queues ClaimStage = Unit {0}
StageInRange view ix queues LookStage = Unit {0}
StageInRange view ix queues (GiveStage e) = IsEntry view ix e
StageInRange view ix queues (LateStage e) = IsEntry view ix e
StageInRange view ix queues (AimStage j) = j < queues
StageInRange view ix queues (PopStage j v) = j < queues
StageInRange view ix queues (OfferStage next) = OnwardInRange queues next
StageInRange view ix queues DoneStage = Unit {0}

-- worker i over m queues, for this question over this index
pub record IsOf (a : Question) (ix : IndexParts) (m i : ℕ) (w : Working) : Type 0 where
  pub question : w.question ≡ a
  pub index : w.index ≡ ix
  pub number : w.number ≡ i
  pub queues : w.queues ≡ m

-- what every worker keeps, with its start leaf, its walk, its list and its stage: its index can be searched for its question;
-- its number, its queues, its stage and its marks are within their limits; its walk is over its index; its list has room for as
-- many pairs as are wanted, and holds what was found in leaves with marks
pub record IsWorking (start : Option ℕ) (walk : Walked) (best : Best) (stage : Stage) (w : Working) : Type 0 where
  pub searched : CanBeSearched w.question w.index
  pub number_limit : w.number < MOST_WORKERS
  pub some_queue : 0 < w.queues
  pub few_queues : w.queues ≤ MOST_QUEUES
  pub start_is : start ≡ start_leaf_of (view_in w.question) w.index
  pub walk_index : walk.index ≡ w.index
  pub wanted : best.k ≡ w.question.k
  pub found : IsFound (search_over w.question w.index 1 w.queues) w.marks best.pairs
  pub marks : length w.marks ≡ length w.index.leaves
  pub range : StageInRange (view_in w.question) w.index w.queues stage

-- the list with which worker i opens: worker 0 has the start leaf's pairs
abbrev pub opened_list : Ground → ℕ → List Pair
opened_list g zero = opening g
opened_list g (suc i) = []

-- worker i of the machine as it opens: worker 0 leads
abbrev pub opens_as : Ground → ℕ → Worker
opens_as g zero = leader g
opens_as g (suc i) = idle

-- whether worker i has a mark of leaf l as it opens: worker 0 of the start leaf
abbrev pub is_opening_mark : ℕ → Option ℕ → ℕ → Bool
is_opening_mark zero start l = is_start start l
is_opening_mark (suc i) start l = false

-- the marks of n leaves with which worker i opens
pub record AreOpeningMarks (i : ℕ) (start : Option ℕ) (n : ℕ) (marks : List Bool) : Type 0 where
  pub count : length marks ≡ n
  pub each : (l : ℕ) → l < n → is_marked marks l ≡ is_opening_mark i start l
