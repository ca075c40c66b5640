-- The outcome of a state in which all workers are done.
use Rattle.std.specs.Prelude.{◌≡◌, ℕ, zero, suc, List, [], ◌∷◌, ◌++◌, Option, None, Some, Bool, false, cond, nat_lt, nat_eq, map, slice_get}
use Rattle.std.specs.Option.{option_map}
use Rattle.series_core.specs.Pairs.{smallest}
use Rattle.series_core.specs.declared.pair.Pair.{Pair}
use Rattle.leaf_queues.specs.PlainQueue.{PlainQueue}
use Rattle.search_machine.specs.declared.phase.Phase.TheVariants.{Done}
use Rattle.search_machine.specs.declared.outcome.Fate.{Fate}
use Rattle.search_machine.specs.declared.outcome.Fate.TheVariants.{Start as StartFate, Queue as QueueFate, Late as LateFate, Bound as BoundFate}
use Rattle.search_machine.specs.declared.outcome.QueueLine.{QueueLine}
use Rattle.search_machine.specs.declared.outcome.Outcome.{Outcome}
use Rattle.search_machine.specs.Ground.{Ground}
use Rattle.search_machine.specs.Basics.{start_of}
use Rattle.search_machine.specs.Machine.{State}
use Rattle.search_machine.specs.Workers.{Worker}
use Rattle.search_machine.specs.Sound.{takes, scans}

-- each worker is done
abbrev pub AllDone : State → Type 0
AllDone s = (i : ℕ) (w : Worker) → slice_get s.workers i ≡ Some w → w.phase ≡ Done

-- the pairs of all workers' lists
abbrev pub all_pairs : List Worker → List Pair
all_pairs [] = []
all_pairs (w ∷ ws) = w.list ++ all_pairs ws

-- the limit of a shut queue
abbrev pub kept_of : Option ℕ → ℕ
kept_of None = 0
kept_of (Some v) = v

-- what a queue tells: the entries that were taken from it, and its limit
abbrev pub line_of : PlainQueue → QueueLine
line_of q = record { taken = q.taken; kept = kept_of q.kept }

-- the first place of a list at which f is not 0
abbrev pub first_place : {X : Type 0} → (X → ℕ) → List X → Option ℕ
first_place f [] = None
first_place f (x ∷ xs) = cond (nat_lt 0 (f x)) (Some 0) (option_map suc (first_place f xs))

-- l is the start leaf
abbrev pub is_start : Option ℕ → ℕ → Bool
is_start None l = false
is_start (Some m) l = nat_eq m l

-- the fate of a leaf that was taken from no queue, by the first worker that scanned it
abbrev pub late_fate : Ground → ℕ → Option ℕ → Fate
late_fate g l None = BoundFate (g.bound l)
late_fate g l (Some i) = LateFate i

-- the fate of a leaf that is not the start leaf, by the first queue from which it was taken
abbrev pub taken_fate : Ground → State → ℕ → Option ℕ → Fate
taken_fate g s l None = late_fate g l (first_place (scans l) s.workers)
taken_fate g s l (Some m) = QueueFate m

-- the fate of leaf l: Start for the start leaf; Queue where it was taken from a queue; Late where a
-- worker scanned it that took it from none; Bound with its bound for every other leaf
abbrev pub fate : Ground → State → ℕ → Fate
fate g s l =
    cond (is_start g.start l) StartFate (taken_fate g s l (first_place (takes l) s.queues))

-- the fates of n leaves from leaf l on
abbrev pub fates_from : Ground → State → ℕ → ℕ → List Fate
fates_from g s l zero = []
fates_from g s l (suc n) = fate g s l ∷ fates_from g s (suc l) n

-- the outcome: the k smallest pairs of all lists; the start; what each queue tells; each leaf's
-- fate
abbrev pub outcome : Ground → State → Outcome
outcome g s = record {
  pairs = smallest g.k (all_pairs s.workers);
  start = start_of g;
  lines = map line_of s.queues;
  fates = fates_from g s 0 g.leaves;
}
