-- What the machine and an outcome both speak of: limits that may be read, entries of a queue, and the
-- start. No state and no turn is in it.
use Rattle.std.specs.Prelude.{◌≡◌, ◌≢◌, ℕ, ◌<◌, ◌≤◌, List, [], ◌∷◌, Option, Some, false}
use Rattle.std.specs.Option.{option_map}
use Rattle.list_totals.specs.Totals.{total, one_if_same}
use Rattle.series_core.specs.declared.queue_words.Entry.{Entry}
use Rattle.leaf_queues.specs.PlainQueue.{entry_before}
use Rattle.search_machine.specs.declared.outcome.Start.{Start}
use Rattle.list_totals.specs.Standing.{In}
use Rattle.search_machine.specs.Ground.{Ground, last, start_limit, queue_of}

-- a limit that some worker may read: at least the last distance, and at most the starting limit
abbrev pub Between : Ground → ℕ → Type 0
Between g v = (last g ≤ v) × (v ≤ start_limit g)

-- the start leaf with the starting limit; none where there is no leaf
abbrev pub start_of : Ground → Option Start
start_of g = option_map (λ (l : ℕ). record { leaf = l; limit = start_limit g }) g.start

-- how often leaf l stands among the entries
abbrev pub entered : ℕ → List Entry → ℕ
entered l es = total (λ (e : Entry). one_if_same l e.leaf) es

-- an entry of queue m: a leaf other than the start leaf that belongs to the queue, with its bound,
-- which is not above the starting limit
pub record EntryRight (g : Ground) (m : ℕ) (e : Entry) : Type 0 where
  pub bound : e.bound ≡ g.bound e.leaf
  pub real : e.leaf < g.leaves
  pub other : g.start ≢ Some e.leaf
  pub queue : queue_of g e.leaf ≡ m
  pub near : e.bound ≤ start_limit g

-- no entry comes before one that stands in front of it
abbrev pub Ordered : List Entry → Type 0
Ordered [] = Unit {0}
Ordered (e ∷ es) = ((d : Entry) → In d es → entry_before d e ≡ false) × Ordered es
