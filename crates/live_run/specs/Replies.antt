-- What one reader is answered, query after query, and how that is the text of a group.
use Rattle.std.specs.Prelude.{◌≡◌, ℕ, ◌+◌, ◌≤◌, List, [], ◌∷◌, ◌++◌, length}
use mathlib.Core.List.{IsPrefix}
use Rattle.series_core.specs.Answer.{answer}
use Rattle.series_core.specs.declared.best.TheConstants.{MAX_BEST}
use Rattle.series_core.specs.declared.rows.TheConstants.{MAX_COUNT}
use Rattle.live_collection.specs.declared.batch.Batch.{Batch}
use Rattle.live_collection.specs.Histories.{series_of}
use Rattle.live_run.specs.Texts.{Query, query_text}
use Rattle.live_run.specs.declared.group.QueryFile.{QueryFile}

-- the text of query i over the series of these batches, of n values each
abbrev pub batches_text : ℕ → ℕ → List Batch → Query → List ℕ
batches_text n i bs q =
    query_text i (length (series_of bs)) (answer (record { points = n; series = series_of bs }) q.values q.k)

-- The text of queries that one reader asks, the first of which has number i. At first the reader has seen the appends of
-- some batches, at each query it has seen those and maybe more, and behind the last query it has seen these.
abbrev pub IsAskedText : ℕ → ℕ → List Batch → List Query → List ℕ → List Batch → Type 0
IsAskedText n i seen [] text later = (text ≡ []) × (seen ≡ later)
IsAskedText n i seen (q ∷ qs) text later = (next : List Batch) × (rest : List ℕ) × IsPrefix seen next
    × IsAskedText n (i + 1) next qs rest later × (text ≡ batches_text n i next q ++ rest)

-- the queries of a file can be asked over series of n values
pub record CanAsk (n : ℕ) (f : QueryFile) : Type 0 where
  pub points : f.queries.points ≡ n
  pub least : 1 ≤ f.k
  pub most : f.k ≤ MAX_BEST
  pub few : length f.queries.series ≤ MAX_COUNT
