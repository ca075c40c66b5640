-- A team: workers over one hand. When it stands for a state of the machine.
use Rattle.std.specs.Prelude.{◌≡◌, ◌≢◌, ℕ, ◌<◌, ◌≤◌, List, [], ◌∷◌, ◌++◌, Option, None, Some, false, length, map, replicate, slice_get}
use Rattle.series_core.specs.declared.distance.TheConstants.{NONE}
use Rattle.series_core.specs.declared.pair.Pair.{Pair}
use Rattle.subtree_build.specs.Index.{IndexParts}
use Rattle.search_machine.specs.declared.outcome.Start.{Start}
use Rattle.search_machine.specs.Ground.{Ground}
use Rattle.search_machine.specs.Machine.{State, played}
use Rattle.search_machine.specs.Workers.{Worker}
use Rattle.search_machine.specs.Shared.{Held}
use Rattle.search_machine.specs.Outcome.{AllDone, line_of}
use Rattle.search_machine.specs.declared.outcome.QueueLine.{QueueLine}
use Rattle.search_machine.specs.Basics.{start_of}
use Rattle.search_task.specs.Questions.{Question, CanBeSearched, last_of, search_over}
use Rattle.query_core.specs.Working.{Working, IsOf, Shows, opens_as}
use Rattle.search_machine.specs.declared.phase.Phase.TheVariants.{Done}
use Rattle.search_limits.specs.declared.numbers.TheConstants.{MOST_WORKERS}

-- a team: the question and the index, the number of queues, the start, what the workers share, and the workers
pub record TeamParts : Type 0 where
  pub question : Question
  pub index : IndexParts
  pub queues : ℕ
  pub start : Option Start
  pub hand : Held
  pub workers : List Working

-- the team of these parts
abbrev pub team_of : Question → IndexParts → ℕ → Option Start → Held → List Working → TeamParts
team_of a ix m start hand workers =
    record { question = a; index = ix; queues = m; start = start; hand = hand; workers = workers }

-- what a team searches
abbrev pub searched : TeamParts → Ground
searched t = search_over t.question t.index (length t.workers) t.queues

-- no worker shares limits of portions
abbrev pub AreAlone : List Working → Type 0
AreAlone ws = (i : ℕ) (w : Working) → slice_get ws i ≡ Some w → w.shares ≡ false

-- what every team keeps: its index can be searched for its question by its 1 to 64 workers over its queues; its start is that of the
-- search; its hand has the floor and the root children of the search; each worker has the number of its place, and shares no limits of
-- portions
pub record IsTeam (t : TeamParts) : Type 0 where
  pub searches : CanBeSearched t.question t.index
  pub some_worker : 0 < length t.workers
  pub few_workers : length t.workers ≤ MOST_WORKERS
  pub some_queue : 0 < t.queues
  pub begins : t.start ≡ start_of (searched t)
  pub floor : t.hand.floor ≡ last_of t.question
  pub roots : t.hand.roots ≡ length t.index.roots
  pub places : (i : ℕ) (w : Working) → slice_get t.workers i ≡ Some w
      → IsOf t.question t.index t.queues i w
  pub alone : AreAlone t.workers

-- the team stands for a state: its hand has the word, the claims and the queues of the state, and each worker shows that of
-- the state at its place
pub record StandsAt (t : TeamParts) (s : State) : Type 0 where
  pub word : t.hand.word ≡ s.word
  pub claimed : t.hand.claimed ≡ s.claimed
  pub lines : t.hand.queues ≡ s.queues
  pub count : length t.workers ≡ length s.workers
  pub shows : (i : ℕ) (w : Working) (m : Worker) → slice_get t.workers i ≡ Some w
      → slice_get s.workers i ≡ Some m → Shows w m

-- each worker searches this index for this question
abbrev pub AreOver : Question → IndexParts → List Working → Type 0
AreOver a ix ws = (i : ℕ) (w : Working) → slice_get ws i ≡ Some w → (w.question ≡ a) × (w.index ≡ ix)

-- each worker's index has leaf l
abbrev pub HaveLeaf : List Working → ℕ → Type 0
HaveLeaf ws l = (i : ℕ) (w : Working) → slice_get ws i ≡ Some w → l < length w.index.leaves

-- there are as many workers as workers of the machine, and each shows that at its place
pub record AreShown (ws : List Working) (ms : List Worker) : Type 0 where
  pub count : length ws ≡ length ms
  pub shows : (i : ℕ) (w : Working) (m : Worker) → slice_get ws i ≡ Some w → slice_get ms i ≡ Some m → Shows w m

-- the workers show those of the state, and the lines are what its queues tell
pub record EndsIn (ws : List Working) (ls : List QueueLine) (s : State) : Type 0 where
  pub workers : AreShown ws s.workers
  pub lines : ls ≡ map line_of s.queues

-- the team stands for the state to which `turns` turns of worker 0 lead, and all workers are done in it
pub record EndsAlone (t : TeamParts) : Type 0 where
  pub turns : ℕ
  pub stands : StandsAt t (played (searched t) (replicate turns 0))
  pub all_done : AllDone (played (searched t) (replicate turns 0))

-- the limit that a start gives; NONE where there is none
abbrev pub limit_of : Option Start → ℕ
limit_of None = NONE
limit_of (Some start) = start.limit

-- the pairs of all workers' lists
abbrev pub all_lists : List Working → List Pair
all_lists [] = []
all_lists (w ∷ ws) = w.list ++ all_lists ws

-- workers as they open, each with the number of its place
pub record AreHired (a : Question) (ix : IndexParts) (m : ℕ) (ws : List Working) : Type 0 where
  pub places : (i : ℕ) (w : Working) → slice_get ws i ≡ Some w → IsOf a ix m i w
  pub opens : (i : ℕ) (w : Working) → slice_get ws i ≡ Some w → Shows w (opens_as (search_over a ix 1 m) i)

-- the workers at the places before n are done
abbrev pub AreDoneTo : List Working → ℕ → Type 0
AreDoneTo ws n = (i : ℕ) (w : Working) → i < n → slice_get ws i ≡ Some w → w.phase ≡ Done

-- all workers are done
abbrev pub AreDone : List Working → Type 0
AreDone ws = (i : ℕ) (w : Working) → slice_get ws i ≡ Some w → w.phase ≡ Done

-- the worker at this place is the first that is not done
pub record IsFirstBusy (ws : List Working) (i : ℕ) : Type 0 where
  pub worker : Working
  pub there : slice_get ws i ≡ Some worker
  pub busy : worker.phase ≢ Done
  pub first : AreDoneTo ws i
