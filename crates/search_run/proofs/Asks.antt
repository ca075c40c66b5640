-- What is so of what a batch asks is so of the rows, the queries and the k that it was made with (`asked_so`).
use Rattle.std.proofs.Common.{ℕ, List, subst}
use Rattle.std.specs.Prelude.{ℤ}
use Rattle.std.specs.Borrow.{Bor}
use Rattle.series_core.specs.Collection.{Collection}
use Rattle.search_run.specs.Batches.{Asks}
use Rattle.search_run.specs.declared.batch.Batch.{Batch}

-- what is so of a batch's rows, k and queries is so of those that it was made with
pub asked_so : {R : Type 0} (collection : R → Collection) (rows : Bor R) (queries : Bor Collection) (k : ℕ) (b : Batch R)
    (P : Collection → ℕ → List (List ℤ) → Type 0) → Asks rows queries k b
    → P (collection b.asked.rows.now) b.asked.k b.asked.queries.now.series → P (collection rows.now) k queries.now.series
asked_so collection rows queries k b P asks so =
    subst (λ r. P (collection r.now) k queries.now.series) asks.rows_are
    (subst (λ n. P (collection b.asked.rows.now) n queries.now.series) asks.k_is
    (subst (λ q. P (collection b.asked.rows.now) b.asked.k q.now.series) asks.queries_are so))
