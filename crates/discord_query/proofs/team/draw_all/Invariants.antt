-- What a worker keeps is what it has to hold of the groups that it drew.
use Rattle.std.proofs.Common.{◌≡◌, ◌≤◌, ◌<◌, ◌-◌, false}
use Rattle.list_totals.specs.Standing.{In}
use Rattle.series_core.specs.declared.pair.Pair.{Pair}
use Rattle.discord_query.specs.Discords.{least_farness}
use Rattle.list_team.specs.Searchers.{IsTold}
use Rattle.discord_query.specs.Done.{IsPart, Holds}
use Rattle.discord_query.specs.Groups.{group_of}
use Rattle.discord_query.proofs.team.draw_all.Given as goal

abbrev pub invariant-loop-drawn : goal.invariant-loop-drawn
invariant-loop-drawn g l = record {
  own : l.worker.pass.claims ≡ l.claims;
  goes_on : l.worker.pass.ended ≡ false;
  met : l.worker.pass.met ≤ l.claims.count;
  told : IsTold l.best (least_farness (g.R.Rows.collection l.search.rows.now) l.search.k) l.worker.word;
  part : IsPart (g.R.Rows.collection l.search.rows.now) l.search.k l.worker.list;
  below : (p : Pair) → In p l.worker.list.pairs → group_of l.search.size p.number < l.worker.pass.met;
  holds :
      Holds (g.R.Rows.collection l.search.rows.now) l.search.k l.search.size l.worker.pass.draws
      l.worker.list.pairs;
}

abbrev pub decreases-loop-drawn : goal.decreases-loop-drawn
decreases-loop-drawn g l = l.claims.count - l.worker.pass.met
