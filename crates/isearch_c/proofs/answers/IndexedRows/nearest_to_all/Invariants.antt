-- What was found and what is wanted of the queries that are left is what is wanted of all; and what is ahead.
use Rattle.std.proofs.Common.{◌≡◌, ◌++◌, drop}
use Rattle.std.specs.Prelude.{None}
use Rattle.group_answer.specs.Asking.{AreAnswers}
use Rattle.isearch_c.specs.declared.answers.Asked.{Asked}
use Rattle.isearch_c.specs.Found.{answers, queries_in}
use Rattle.isearch_c.proofs.answers.IndexedRows.nearest_to_all.Given as goal

abbrev pub invariant-loop-i : goal.invariant-loop-i
invariant-loop-i g l =
    let c = g.R.Rows.collection l.fn.self.rows.now in
    let asked : Asked = record { k = l.fn.k; apart = None } in
    let queries = queries_in c.points l.fn.queries in
    record {
      all : l.found.items ++ answers asked c (drop l.i queries) ≡ answers asked c queries;
      ahead : AreAnswers g.R.Rows.collection l.together l.ahead.items;
    }
