-- Which leaves were put: those that some worker has marked.
use Rattle.std.specs.Prelude.{◌≡◌, ℕ, ◌<◌, ◌≤◌, ◌↔◌, ◌%◌, List, Some, Bool, true, length, slice_get}
use Rattle.list_totals.specs.Totals.{total, one_if_same, once_below}
use Rattle.list_totals.specs.Standing.{In}
use Rattle.series_core.specs.declared.queue_words.Entry.{Entry}
use Rattle.series_core.specs.EntryOrder.{IsAscending}
use Rattle.lower_bound.specs.Bound.{View}
use Rattle.sealed_runs.specs.Closed.{Line}
use Rattle.subtree_build.specs.Index.{IndexParts}
use Rattle.search_machine.specs.declared.outcome.QueueLine.{QueueLine}
use Rattle.search_machine.specs.Outcome.{kept_of}
use Rattle.search_task.specs.Questions.{leaf_bound}

-- some worker has marked leaf l
abbrev pub IsMarked : List (List Bool) → ℕ → Type 0
IsMarked marks l =
    (i : ℕ) × (own : List Bool) × (slice_get marks i ≡ Some own) × (slice_get own l ≡ Some true)

-- an entry of a leaf below n that some worker has marked, with the leaf's bound
pub record IsMarkedEntry (view : View) (ix : IndexParts) (marks : List (List Bool)) (n : ℕ) (e : Entry) : Type 0 where
  pub real : e.leaf < n
  pub bound : e.bound ≡ leaf_bound view ix e.leaf
  pub marked : IsMarked marks e.leaf

-- the entries of all leaves below n that some worker has marked, each leaf once
pub record AreMarked (view : View) (ix : IndexParts) (marks : List (List Bool)) (n : ℕ) (es : List Entry) : Type 0 where
  pub exactly : (e : Entry) → In e es ↔ IsMarkedEntry view ix marks n e
  pub once : (l : ℕ) → total (λ (e : Entry). one_if_same l e.leaf) es ≤ once_below l n

-- the run of queue m: in ascending order, exactly the entries of the marked leaves that belong to it
pub record IsRunOf (view : View) (ix : IndexParts) (marks : List (List Bool)) (queues m : ℕ) (es : List Entry) : Type 0 where
  pub ascending : IsAscending es
  pub exactly : (e : Entry)
      → In e es ↔ (IsMarkedEntry view ix marks (length ix.leaves) e × (e.leaf % queues ≡ m))

-- what a closed run tells as the line of its queue
abbrev pub line_of_run : Line → QueueLine
line_of_run line = record { taken = line.taken; kept = kept_of line.kept }
