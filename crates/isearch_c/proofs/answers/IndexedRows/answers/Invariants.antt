-- What was found and what is wanted of the queries that are left is what is wanted of all.
use Rattle.std.proofs.Common.{◌≡◌, ◌++◌, ◌-◌, ◌*◌, ◌/◌, length}
use Rattle.series_core.specs.Flat.{rows_of}
use Rattle.isearch_c.specs.Found.{answers}
use Rattle.isearch_c.proofs.answers.IndexedRows.answers.Given as goal

abbrev pub invariant-loop : goal.invariant-loop
invariant-loop g l = let c = g.R.Rows.collection l.fn.self.rows.now in let n = c.points in record {
  long : length l.rest ≡ (length l.fn.queries / n - l.counter) * n;
  all : l.found.items ++ answers l.fn.asked c (rows_of n (length l.fn.queries / n - l.counter) l.rest)
      ≡ answers l.fn.asked c (rows_of n (length l.fn.queries / n) l.fn.queries);
}
