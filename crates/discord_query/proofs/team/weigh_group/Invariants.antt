-- The series so far were taken in.
use Rattle.std.proofs.Common.{◌≤◌}
use Rattle.discord_query.specs.Discords.{least_farness}
use Rattle.list_team.specs.Searchers.{IsTold}
use Rattle.discord_query.proofs.Weighing.{WeighedRow}
use Rattle.discord_query.proofs.team.weigh_group.Given as goal

abbrev pub invariant-loop-number : goal.invariant-loop-number
invariant-loop-number g l = record {
  low : l.first ≤ l.number;
  told : IsTold l.best (least_farness (g.R.Rows.collection l.search.rows.now) l.search.k) l.word;
  weighed : WeighedRow (g.R.Rows.collection l.search.rows.now) l.search.k l.first l.number l.fn.list l.list;
}
