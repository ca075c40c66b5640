-- States of runs in which no put comes after a pop: no worker is late, and what was taken ascends.
use Rattle.std.specs.Prelude.{◌≡◌, ℕ, ◌<◌, [], ◌++◌, ◌⊎◌, None, Some, Bool, true, false, slice_get}
use Rattle.list_totals.specs.Totals.{total}
use Rattle.leaf_queues.specs.PlainQueue.{PlainQueue}
use Rattle.search_machine.specs.declared.phase.Phase.{Phase}
use Rattle.search_machine.specs.declared.phase.Phase.TheVariants.{Claim, Look, Give, Late, Aim, Pop, Offer, Done}
use Rattle.search_machine.specs.declared.phase.Onward.TheVariants.{Look as ToLook, Aim as ToAim}
use Rattle.search_machine.specs.Ground.{Ground}
use Rattle.search_machine.specs.Machine.{State}
use Rattle.search_machine.specs.Workers.{Worker, fills}
use Rattle.search_machine.specs.Sound.{scans, takes}
use Rattle.search_machine.specs.Basics.{Ordered}

-- no put of a worker in this phase was refused: it neither holds a late leaf nor has just scanned
-- one
abbrev pub on_time : Phase → Bool
on_time (Late l) = false
on_time (Offer ToLook) = false
on_time Claim = true
on_time Look = true
on_time (Give l) = true
on_time (Aim j) = true
on_time (Pop j v) = true
on_time (Offer (ToAim j)) = true
on_time Done = true

-- a straight state
pub record Straight (g : Ground) (s : State) : Type 0 where
  -- no worker is late
  pub on_time : (i : ℕ) (w : Worker) → slice_get s.workers i ≡ Some w → on_time w.phase ≡ true
  -- while some worker fills, no queue is shut and nothing was taken
  pub before_pops : (i m : ℕ) (w : Worker) (q : PlainQueue) → slice_get s.workers i ≡ Some w
      → slice_get s.queues m ≡ Some q → fills w.phase ≡ true → (q.kept ≡ None) × (q.taken ≡ [])
  -- what was taken ascends, and what waits comes after it
  pub ordered : (m : ℕ) (q : PlainQueue) → slice_get s.queues m ≡ Some q
      → Ordered (q.taken ++ q.waiting)
  -- each leaf that was scanned is the start leaf or was taken from a queue
  pub taken : (l : ℕ) → 0 < total (scans l) s.workers
      → (g.start ≡ Some l) ⊎ (0 < total (takes l) s.queues)
