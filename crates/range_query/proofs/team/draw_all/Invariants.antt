-- All that is near below the root children drawn so far is found.
use Rattle.std.proofs.Common.{◌≡◌, ◌≤◌, ◌-◌, None, false}
use Rattle.range_query.specs.Near.{near_drawn}
use Rattle.range_query.specs.Searches.{asked_of}
use Rattle.range_query.proofs.team.draw_all.Given as goal

abbrev pub invariant-loop-drawn : goal.invariant-loop-drawn
invariant-loop-drawn g l = record {
  own : l.worker.pass.claims ≡ l.claims;
  goes_on : l.worker.pass.ended ≡ false;
  met : l.worker.pass.met ≤ l.claims.count;
  none : l.worker.made ≡ None;
  all_near :
      l.found.items
      ≡ near_drawn (asked_of g.R.Rows.collection l.search) l.search.index.now l.search.size l.worker.pass.draws;
}

-- each draw leaves fewer root children undrawn
abbrev pub decreases-loop-drawn : goal.decreases-loop-drawn
decreases-loop-drawn g l = l.claims.count - l.worker.pass.met
