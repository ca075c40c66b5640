-- What was found so far is right, and the pass goes on.
use Rattle.std.proofs.Common.{◌≡◌, ◌≤◌, ◌-◌, false}
use Rattle.group_answer.specs.Asking.{AreAnswers}
use Rattle.search_run.proofs.batch.Batch.draw_all.Given as goal

abbrev pub invariant-loop-drawn : goal.invariant-loop-drawn
invariant-loop-drawn g l = record {
  own : l.share.pass.claims ≡ l.claims;
  goes_on : l.share.pass.ended ≡ false;
  met : l.share.pass.met ≤ l.claims.count;
  right : AreAnswers g.R.Rows.collection l.self.asked l.share.found.items;
}

-- each draw comes from behind what was met
abbrev pub decreases-loop-drawn : goal.decreases-loop-drawn
decreases-loop-drawn g l = l.claims.count - l.share.pass.met
