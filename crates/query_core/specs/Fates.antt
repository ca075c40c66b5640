-- The fate of a leaf, first without the queues and then queue by queue, from the last to the first.
use Rattle.std.specs.Prelude.{◌≡◌, ℕ, suc, ◌<◌, ◌≤◌, List, [], ◌∷◌, Option, None, Some, cond, nat_lt, length, slice_get}
use Rattle.series_core.specs.declared.queue_words.Entry.{Entry}
use Rattle.search_machine.specs.declared.outcome.QueueLine.{QueueLine}
use Rattle.search_machine.specs.declared.outcome.Fate.{Fate}
use Rattle.search_machine.specs.declared.outcome.Fate.TheVariants.{Start as StartFate, Queue as QueueFate}
use Rattle.search_machine.specs.declared.outcome.Start.{Start}
use Rattle.search_machine.specs.Ground.{Ground}
use Rattle.search_machine.specs.Machine.{State}
use Rattle.search_machine.specs.Outcome.{first_place, is_start, late_fate}
use Rattle.search_machine.specs.Sound.{scans}
use Rattle.search_machine.specs.Basics.{entered}
use Rattle.subtree_build.specs.Index.{IndexParts}
use Rattle.subtree_build.specs.Start.{start_leaf_of}
use Rattle.search_task.specs.Questions.{CanBeSearched, Question, view_in}
use Rattle.query_core.specs.Teams.{AreOver}
use Rattle.query_core.specs.Working.{Working}
use Rattle.search_limits.specs.declared.numbers.TheConstants.{MOST_WORKERS}

-- the fate of leaf l where no queue gave it
abbrev pub fate_unqueued : Ground → State → ℕ → Fate
fate_unqueued g s l =
    cond (is_start g.start l) StartFate (late_fate g l (first_place (scans l) s.workers))

-- the fate of leaf l, which was f, where queue m gave these entries too: Queue m where it stands among them, but not for the
-- start leaf
abbrev pub fate_over : Option ℕ → ℕ → List Entry → ℕ → Fate → Fate
fate_over start m es l f = cond (is_start start l) f (cond (nat_lt 0 (entered l es)) (QueueFate m) f)

-- the fate of leaf l, which was f, where the queues of these lines, the first of them with number m, gave their entries too
abbrev pub fate_queued : Option ℕ → ℕ → List QueueLine → ℕ → Fate → Fate
fate_queued start m [] l f = f
fate_queued start m (q ∷ qs) l f = fate_over start m q.taken l (fate_queued start (suc m) qs l f)

-- the leaf of a start
abbrev pub leaf_of : Option Start → Option ℕ
leaf_of None = None
leaf_of (Some start) = Some start.leaf

-- at most 64 workers over an index that can be searched for the question, with the leaf of the start, if any, for its start leaf
pub record HaveSearched (a : Question) (ix : IndexParts) (start : Option Start) (ws : List Working) : Type 0 where
  pub searches : CanBeSearched a ix
  pub start_is : leaf_of start ≡ start_leaf_of (view_in a) ix
  pub over : AreOver a ix ws
  pub few : length ws ≤ MOST_WORKERS

-- each leaf that had a fate has the fate that these entries of queue m give it
abbrev pub AreMarked : Option ℕ → ℕ → List Entry → List Fate → List Fate → Type 0
AreMarked start m es before after =
    (l : ℕ) (f : Fate) → slice_get before l ≡ Some f → slice_get after l ≡ Some (fate_over start m es l f)

-- the fates of the leaves below n, where no queue gave any
pub record AreUnqueued (g : Ground) (s : State) (n : ℕ) (fs : List Fate) : Type 0 where
  pub count : length fs ≡ n
  pub each : (l : ℕ) → l < n → slice_get fs l ≡ Some (fate_unqueued g s l)
