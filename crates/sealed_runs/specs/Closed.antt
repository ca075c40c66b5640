-- What the closed runs say: the rule is that a run's taken entries are those of its Leaf replies, and no others.
use Rattle.std.specs.Prelude.{◌≡◌, ◌≢◌, ℕ, ◌<◌, ◌≤◌, ◌↔◌, min, List, [], ◌∷◌, Option, Some, None, IfSome, All, Any, length, slice_index_or}
use Rattle.series_core.specs.declared.queue_words.Entry.{Entry}
use Rattle.list_totals.specs.Standing.{In}
use Rattle.list_totals.specs.Totals.{total, times}
use Rattle.series_core.specs.EntryOrder.{IsAscending}
use Rattle.sealed_runs.specs.Entries.{Run, run_at}
use Rattle.sealed_runs.specs.Visits.{Visit, column, handed, leaves}

-- a closed run: the entries that were taken, and the limit that it keeps
pub record Line : Type 0 where
  pub taken : List Entry
  pub kept : Option ℕ

-- what is read past the end of a list of closed runs
abbrev pub no_line : Line
no_line = record { taken = []; kept = None }

-- closed run m
abbrev pub line_at : List Line → ℕ → Line
line_at lines m = slice_index_or lines m no_line

-- the less of two limits, where there are any
abbrev pub lesser : Option ℕ → Option ℕ → Option ℕ
lesser None b = b
lesser (Some a) None = Some a
lesser (Some a) (Some b) = Some (min a b)

-- the least limit of the Closed replies, and None where no reply is Closed
abbrev pub least_limit : List Visit → Option ℕ
least_limit [] = None
least_limit (v ∷ vs) = lesser v.closed (least_limit vs)

-- the line of a run that these visits closed: the taken entries ascend and are exactly those of all Leaf replies, each as
-- often as it was a reply (what is counted of the taken entries is what is counted of the replies), no place was handed
-- out twice, the least limit is kept, and where each visit had Closed, what was not taken is above it
pub record IsLine (run : Run) (visits : List Visit) (line : Line) : Type 0 where
  pub ascending : IsAscending line.taken
  pub exactly : (e : Entry)
      → In e line.taken ↔ Any (λ v. In e (leaves run.entries v)) visits
  pub counts : (f : Entry → ℕ)
      → total f line.taken ≡ total (λ v. total f (leaves run.entries v)) visits
  pub once : (x : ℕ) → total (λ v. times x (handed v)) visits ≤ 1
  pub kept : line.kept ≡ least_limit visits
  pub rest : All (λ v. v.closed ≢ None) visits → (e : Entry) → In e run.entries
      → ¬ (In e line.taken) → IfSome line.kept (λ limit. limit < e.bound)

-- one line for each run
pub record AreLines (runs : List Run) (passes : List (List Visit)) (lines : List Line) : Type 0
  where
    pub count : length lines ≡ length runs
    pub each : (m : ℕ) → m < length runs → IsLine (run_at runs m) (column passes m) (line_at lines m)
