-- What waits in the queues between the parts of a search over locked queues.
use Rattle.std.specs.Prelude.{◌≡◌, ◌==◌, ℕ, ◌≤◌, ◌↔◌, ◌%◌, List, [], None, Some, filter, length, map, slice_get}
use Rattle.list_totals.specs.Standing.{In}
use Rattle.series_core.specs.declared.queue_words.Entry.{Entry}
use Rattle.leaf_queues.specs.declared.calls.Call.TheVariants.{Put}
use Rattle.leaf_queues.specs.PlainQueue.{PlainQueue}
use Rattle.subtree_build.specs.Index.{IndexParts}
use Rattle.search_machine.specs.Basics.{Ordered, entered}
use Rattle.search_machine.specs.Machine.{capacity_of}
use Rattle.queue_histories.specs.Histories.{History, Leads}
use Rattle.search_task.specs.Questions.{Question, search_over, view_in}
use Rattle.live_query.specs.Marked.{IsMarkedEntry}
use Rattle.live_query.specs.Parts.{Resting, marks_of}

-- those of the entries whose leaves belong to queue j of n
abbrev pub those_of : ℕ → ℕ → List Entry → List Entry
those_of n j es = filter (λ (e : Entry). e.leaf % n == j) es

-- a legal history of puts of just these entries leads from q to r, which is queue j of n
pub record IsFilledBy (n j : ℕ) (es : List Entry) (q r : PlainQueue) : Type 0 where
  pub log : History
  pub leads : Leads q log r
  pub puts : map (λ x. x.call) log ≡ map Put (those_of n j es)

-- the marked leaves that belong to queue j wait in it, each once and in order, and nothing was taken from it
pub record IsFilled (a : Question) (ix : IndexParts) (team : List Resting) (queues j : ℕ) (q : PlainQueue) : Type 0 where
  pub exactly : (e : Entry)
      → In e q.waiting ↔ (IsMarkedEntry (view_in a) ix (marks_of team) (length ix.leaves) e × (e.leaf % queues ≡ j))
  pub once : (l : ℕ) → entered l q.waiting ≤ 1
  pub ordered : Ordered q.waiting
  pub placed : q.placed ≡ length q.waiting
  pub taken : q.taken ≡ []
  pub kept : q.kept ≡ None
  pub capacity : q.capacity ≡ capacity_of (search_over a ix 1 queues) j (length ix.leaves)

-- so it is with each queue
abbrev pub AreFilled : Question → IndexParts → List Resting → ℕ → List PlainQueue → Type 0
AreFilled a ix team queues qs =
    (j : ℕ) (q : PlainQueue) → slice_get qs j ≡ Some q → IsFilled a ix team queues j q
