-- The list is what is found of the stretches that were drawn.
use Rattle.std.proofs.Common.{◌≡◌, ◌≤◌, ◌-◌, false, length}
use Rattle.list_team.specs.Searchers.{IsTold}
use Rattle.nearest_answer.specs.Team.{HasFound}
use Rattle.search_task.specs.Questions.{last_of}
use Rattle.nearest_answer.proofs.team.draw_all.Given as goal

abbrev pub invariant-loop-drawn : goal.invariant-loop-drawn
invariant-loop-drawn g l = record {
  own : l.worker.pass.claims ≡ l.claims;
  goes_on : l.worker.pass.ended ≡ false;
  met : l.worker.pass.met ≤ l.claims.count;
  told : IsTold l.best (last_of l.search.question) l.worker.word;
  list : (l.worker.list.k ≡ l.search.question.k) × (length l.worker.list.pairs ≤ l.search.question.k);
  found : HasFound l.search l.what l.claims.count l.worker.pass.draws l.worker.list.pairs;
}

abbrev pub decreases-loop-drawn : goal.decreases-loop-drawn
decreases-loop-drawn g l = l.claims.count - l.worker.pass.met
