-- The outcome is that of the state with which the workers end.
use Rattle.std.proofs.Common.{ap, length, subst, sym, ◌∙◌}
use Rattle.std.proofs.lemmas.Result.{IfOk-weaker}
use Rattle.search_machine.specs.Legal.{IsStraight, Legal}
use Rattle.search_machine.specs.declared.outcome.Outcome.{Outcome}
use Rattle.search_task.specs.Questions.{search_over}
use Rattle.search_task.proofs.OfIndex.{answer_is}
use Rattle.live_query.proofs.concluding.outcome_of.Goals as goal

pub conclude-requires-clause-over : goal.conclude-requires-clause-over
conclude-requires-clause-over g c = c.requires.drained.over

pub returns : goal.returns
returns g c =
    let a = c.args.plan.now.search.question in
    let n = length c.args.ended.now in
    let m = c.args.plan.now.queues in
    let ends = c.requires.drained.ends in
    let is = c.conclude.ensures n m ends.state ends.ends in
    record {
      legal = IfOk-weaker c.conclude.result _ _ (λ o is.
          subst (Legal (search_over a c.args.plan.now.search.index n m)) (sym is) ends.legal) is;
      straight = IfOk-weaker c.conclude.result _ _ (λ o is. subst IsStraight (sym is) ends.straight) is;
      answer = IfOk-weaker c.conclude.result _ _ (λ o is.
          ap (λ (o : Outcome). o.pairs) is ∙ ends.legal.pairs ∙ answer_is a c.args.plan.now.search.index n m) is;
    }
