-- What keeps a schedule from an outcome: a number that is no worker's, or a worker that is not done at its end.
use Rattle.std.specs.Prelude.{◌≡◌, ◌≢◌, ℕ, ◌<◌, ◌≤◌, List, Some, slice_get}
use Rattle.search_machine.specs.declared.phase.Phase.TheVariants.{Done}
use Rattle.query_core.specs.declared.playing.ReplayError.{ReplayError}
use Rattle.query_core.specs.declared.playing.ReplayError.TheVariants.{NoMemory, Stranger, Unfinished}
use Rattle.search_machine.specs.Ground.{Ground}
use Rattle.search_machine.specs.Machine.{played}
use Rattle.search_machine.specs.Workers.{Worker}
use Rattle.search_machine.specs.Outcome.{AllDone}

-- each entry of the schedule before place n is a worker's number
abbrev pub NamesWorkers : Ground → List ℕ → ℕ → Type 0
NamesWorkers g schedule n = (at i : ℕ) → at < n → slice_get schedule at ≡ Some i → i < g.workers

-- each entry of the schedule is a worker's number
abbrev pub NoStranger : Ground → List ℕ → Type 0
NoStranger g schedule = (at i : ℕ) → slice_get schedule at ≡ Some i → i < g.workers

-- the entry at this place is the first that is no worker's number
pub record FirstStranger (g : Ground) (schedule : List ℕ) (at : ℕ) : Type 0 where
  pub number : ℕ
  pub there : slice_get schedule at ≡ Some number
  pub stranger : g.workers ≤ number
  pub first : NamesWorkers g schedule at

-- worker i is the first that the schedule does not leave done
pub record FirstUnfinished (g : Ground) (schedule : List ℕ) (i : ℕ) : Type 0 where
  pub worker : Worker
  pub there : slice_get (played g schedule).workers i ≡ Some worker
  pub not_done : worker.phase ≢ Done
  pub first : (j : ℕ) (w : Worker) → j < i → slice_get (played g schedule).workers j ≡ Some w → w.phase ≡ Done

-- what a refusal says of the schedule; want of memory says nothing
abbrev pub Refuses : Ground → List ℕ → ReplayError → Type 0
Refuses g schedule NoMemory = Unit {0}
Refuses g schedule (Stranger at) = FirstStranger g schedule at
Refuses g schedule (Unfinished i) = NoStranger g schedule × FirstUnfinished g schedule i

-- the schedule names workers alone, and leaves all of them done
pub record IsPlayed (g : Ground) (schedule : List ℕ) : Type 0 where
  pub no_stranger : NoStranger g schedule
  pub all_done : AllDone (played g schedule)
