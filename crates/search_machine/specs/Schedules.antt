-- What the laws say of schedules.
use Rattle.std.specs.Prelude.{◌≡◌, ◌≢◌, ℕ, ◌<◌, ◌≤◌, List, [], ◌∷◌, Some, map, slice_get}
use Rattle.list_totals.specs.Totals.{times}
use Rattle.series_core.specs.declared.queue_words.Entry.{Entry}
use Rattle.series_core.specs.declared.queue_words.PutReply.TheVariants.{Filled}
use Rattle.leaf_queues.specs.PlainQueue.{PlainQueue, put}
use Rattle.search_machine.specs.declared.phase.Phase.{Phase}
use Rattle.search_machine.specs.declared.phase.Phase.TheVariants.{Give}
use Rattle.search_machine.specs.Ground.{Ground, queue_of, entry_of}
use Rattle.search_machine.specs.Machine.{State, turn}
use Rattle.search_machine.specs.Workers.{Worker}

-- the schedule names each worker at least n times
abbrev pub NamesEach : Ground → ℕ → List ℕ → Type 0
NamesEach g n schedule = (i : ℕ) → i < g.workers → n ≤ times i schedule

-- no put that a worker may make in this state is answered Filled
abbrev pub PutsHaveRoom : Ground → State → Type 0
PutsHaveRoom g s =
    (i l c : ℕ) (w : Worker) (q : PlainQueue) → slice_get s.workers i ≡ Some w
    → w.phase ≡ Give l → slice_get s.queues (queue_of g l) ≡ Some q
    → (put (entry_of g l) q).1 ≢ Filled c

-- the phases of all workers
abbrev pub phases : State → List Phase
phases s = map (λ (w : Worker). w.phase) s.workers

-- what waits in each queue
abbrev pub waiting_entries : State → List (List Entry)
waiting_entries s = map (λ (q : PlainQueue). q.waiting) s.queues

-- the leaves that each worker scanned, the newest first
abbrev pub scanned_leaves : State → List (List ℕ)
scanned_leaves s = map (λ (w : Worker). w.scanned) s.workers

-- the phases of all workers in a state, and after each turn of a schedule from there
abbrev pub phases_along : Ground → List ℕ → State → List (List Phase)
phases_along g [] s = phases s ∷ []
phases_along g (i ∷ is) s = phases s ∷ phases_along g is (turn g i s)
