-- The machine of a search: its state, and what a turn of one worker makes of it. A turn is one call on
-- what the workers share, and the worker's own case of the reply.
use Rattle.std.specs.Prelude.{ℕ, zero, suc, ◌+◌, ◌-◌, List, [], ◌∷◌, Option, None, Some, length, replicate, set, slice_get}
use Rattle.list_totals.specs.Totals.{one_if_same}
use Rattle.leaf_queues.specs.PlainQueue.{PlainQueue, empty_queue}
use Rattle.search_machine.specs.declared.calls.Reply.{Reply}
use Rattle.search_machine.specs.declared.phase.Phase.{Phase}
use Rattle.search_machine.specs.declared.phase.Phase.TheVariants.{Done}
use Rattle.search_machine.specs.Ground.{Ground, last, start_limit, queue_of}
use Rattle.search_machine.specs.Workers.{Worker, after_reply, idle, leader}
use Rattle.search_machine.specs.Calls.{call_in}
use Rattle.search_machine.specs.Shared.{Held, held_after}

-- the state of a search: the bound word, how many root children are claimed, the queues, the
-- workers
pub record State : Type 0 where
  pub word : ℕ
  pub claimed : ℕ
  pub queues : List PlainQueue
  pub workers : List Worker

-- what the workers share in a state
abbrev pub shared : Ground → State → Held
shared g s = record {
  floor = last g;
  roots = length g.roots;
  claimed = s.claimed;
  word = s.word;
  queues = s.queues;
}

-- the state of what is shared and these workers
abbrev pub state_of : Held → List Worker → State
state_of h ws = record { word = h.word; claimed = h.claimed; queues = h.queues; workers = ws }

-- the state after a call of worker i, which is w, in this phase: what is shared is what the call made
-- of it, and the worker what it becomes by the reply
abbrev pub answered : Ground → ℕ → State → Worker → Phase → Held × Reply → State
answered g i s w phase r = state_of r.0 (set s.workers i (after_reply g w phase r.1))

-- the turn of worker i, which is w, in this phase: its call, and the reply; a worker that is done makes
-- no call and changes nothing
abbrev pub turn_by_phase : Ground → ℕ → State → Worker → Phase → State
turn_by_phase g i s w Done = s
turn_by_phase g i s w phase =
    answered g i s w phase (held_after (shared g s) (call_in g i w phase))

-- the turn of worker i, where there is such a worker
abbrev pub turn_of : Ground → ℕ → State → Option Worker → State
turn_of g i s None = s
turn_of g i s (Some w) = turn_by_phase g i s w w.phase

-- the state after one turn of worker i
abbrev pub turn : Ground → ℕ → State → State
turn g i s = turn_of g i s (slice_get s.workers i)

-- the state after a schedule: a list of workers' numbers, one turn each
abbrev pub run : Ground → List ℕ → State → State
run g [] s = s
run g (i ∷ is) s = run g is (turn g i s)

-- The opening.

-- how many of the leaves below n belong to queue m
abbrev pub capacity_of : Ground → ℕ → ℕ → ℕ
capacity_of g m zero = 0
capacity_of g m (suc n) = one_if_same m (queue_of g n) + capacity_of g m n

-- n empty queues from number m on, each with room for all leaves that belong to it
abbrev pub empty_queues : Ground → ℕ → ℕ → List PlainQueue
empty_queues g m zero = []
empty_queues g m (suc n) = empty_queue (capacity_of g m g.leaves) ∷ empty_queues g (suc m) n

-- the opening state: the word is the starting limit, nothing is claimed, the queues are empty,
-- worker 0 leads, and the others are idle
abbrev pub opened : Ground → State
opened g = record {
  word = start_limit g;
  claimed = 0;
  queues = empty_queues g 0 g.queues;
  workers = leader g ∷ replicate (g.workers - 1) idle;
}

-- the state to which a schedule leads from the opening state
abbrev pub played : Ground → List ℕ → State
played g schedule = run g schedule (opened g)
