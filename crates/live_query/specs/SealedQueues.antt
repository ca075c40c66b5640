-- What a worker has of sealed runs, what a pop did to it, and when it agrees with the pops of a record.
use Rattle.std.specs.Prelude.{◌≡◌, ℕ, ◌<◌, ◌≤◌, ◌⊎◌, List, None, Some, length, is_some, true, slice_set}
use Rattle.list_totals.specs.Totals.{total, one_if_same}
use Rattle.list_totals.specs.Standing.{In}
use Rattle.series_core.specs.declared.queue_words.Entry.{Entry}
use Rattle.series_core.specs.declared.queue_words.PopReply.{PopReply}
use Rattle.series_core.specs.declared.queue_words.PopReply.TheVariants.{Closed}
use Rattle.sealed_runs.specs.Entries.{Run, run_at}
use Rattle.sealed_runs.specs.Sealing.{fresh_visits}
use Rattle.sealed_runs.specs.Visits.{IsPass, Visit, visit_at, leaves}
use Rattle.sealed_runs.specs.Popped.{IfLeaf, IfClosed, Gives, Shuts}
use Rattle.search_machine.specs.OwnRecord.{PopMade}
use Rattle.search_machine.specs.Closes.{popped_of}

-- the runs, and its visits of them
pub record SealedKept : Type 0 where
  pub runs : List Run
  pub visits : List Visit

-- worker i has fresh visits of these runs
abbrev pub IsFresh : List Run → ℕ → SealedKept → Type 0
IsFresh runs i q = q ≡ record { runs = runs; visits = fresh_visits runs }

-- a fresh pass of these runs
abbrev pub IsFreshPass : List Run → List Visit → Type 0
IsFreshPass runs visits = (visits ≡ fresh_visits runs) × IsPass runs visits

-- how many runs there are
abbrev pub run_count : SealedKept → ℕ
run_count q = length q.runs

-- a pop that takes no step: it names no run, or its run has answered Closed to this worker
abbrev pub IsIdle : SealedKept → ℕ → Type 0
IsIdle q m = (length q.runs ≤ m) ⊎ (is_some (visit_at q.visits m).closed ≡ true)

-- a pop with v from run m that takes a step
pub record PopsRun (q : SealedKept) (m v : ℕ) (reply : PopReply) (k : SealedKept) : Type 0 where
  pub run : m < length q.runs
  pub visit : m < length q.visits
  pub goes_on : (visit_at q.visits m).closed ≡ None
  pub after : k ≡ record q { visits = slice_set q.visits m (visit_at k.visits m) }
  pub leaf : IfLeaf reply (Gives (run_at q.runs m) v (visit_at q.visits m) (visit_at k.visits m))
  pub closed : IfClosed reply (Shuts (run_at q.runs m) v (visit_at q.visits m) (visit_at k.visits m))

-- what a pop with v from run m did
abbrev pub SealedPops : SealedKept → ℕ → ℕ → PopReply → SealedKept → Type 0
SealedPops q m v reply k = (IsIdle q m × (reply ≡ Closed v) × (k ≡ q)) ⊎ PopsRun q m v reply k

-- how often leaf l stands among the entries of a visit's Leaf replies
abbrev pub given_of : ℕ → Run → Visit → ℕ
given_of l run v = total (λ (e : Entry). one_if_same l e.leaf) (leaves run.entries v)

-- each run gave each leaf as often as these pops took it, is closed where one of them was answered Closed, and keeps the limit of one
pub record SealedAgrees (q : SealedKept) (ps : List PopMade) : Type 0 where
  pub popped : (m l : ℕ) → m < length q.runs → total (popped_of m l) ps ≡ given_of l (run_at q.runs m) (visit_at q.visits m)
  pub closed : (m : ℕ) (p : PopMade) (v : ℕ) → m < length q.runs → In p ps → p.queue ≡ m → p.reply ≡ Closed v
      → is_some (visit_at q.visits m).closed ≡ true
  pub kept : (m v : ℕ) → m < length q.runs → (visit_at q.visits m).closed ≡ Some v
      → (p : PopMade) × In p ps × (p.queue ≡ m) × (p.limit ≡ v)

-- the runs are as they were
pub record SameRuns (q k : SealedKept) : Type 0 where
  pub runs : k.runs ≡ q.runs
