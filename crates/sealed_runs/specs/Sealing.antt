-- What sealing keeps: the rule is that runs are ascending and each has a counter of its own over its places.
use Rattle.std.specs.Prelude.{◌≡◌, ℕ, ◌%◌, List, Bool, map, length, nat_eq}
use Rattle.std.specs.List.{filter}
use Rattle.series_core.specs.declared.queue_words.Entry.{Entry}
use Rattle.series_core.specs.EntryOrder.{IsAscending}
use Rattle.sealed_runs.specs.Entries.{Run}
use Rattle.sealed_runs.specs.Visits.{Visit, fresh_visit}

-- a run that `passes` passes may pop: it ascends, and its counter has one place for each entry
pub record IsReady (passes : ℕ) (run : Run) : Type 0 where
  pub ascending : IsAscending run.entries
  pub callers : run.claims.callers ≡ passes
  pub count : run.claims.count ≡ length run.entries

-- the visits of a pass that has done nothing
abbrev pub fresh_visits : List Run → List Visit
fresh_visits runs = map (λ run. fresh_visit run.claims) runs

-- whether an entry is of queue m
abbrev pub is_of : ℕ → ℕ → Entry → Bool
is_of queues m e = nat_eq (e.leaf % queues) m

-- the row of queue m: those of the entries that are of it, in their order
abbrev pub row_of : ℕ → List Entry → ℕ → List Entry
row_of queues es m = filter (is_of queues m) es
