use Rattle.std.proofs.Common.{arith, refl, ◌∙◌, ◌≡◌}
use Rattle.std.specs.Prelude.{replicate}
use Rattle.series_core.specs.Answer.{answer as collection_answer}
use Rattle.search_machine.specs.declared.outcome.Outcome.{Outcome}
use Rattle.search_machine.specs.Legal.{IsStraight, Legal}
use Rattle.search_machine.specs.Machine.{played}
use Rattle.search_machine.specs.Outcome.{outcome}
use Rattle.search_task.specs.Questions.{search_over}
use Rattle.search_task.proofs.OfIndex.{answer_is, search_fits}
use Rattle.search_task.proofs.Searching.{ground_same}
use Rattle.query_core.specs.Teams.{searched}
use Rattle.query_core.proofs.TeamPlays.{alone_legal, alone_straight, if_ok}
use Rattle.query_core.proofs.alone.one_worker.Goals as goal

pub returns-clause-legal : goal.returns-clause-legal
returns-clause-legal g c =
    let team = c.in_ok-team.team in
    let ends = c.in_ok-team.ensures.ends in
    let end = played (searched team) (replicate ends.turns 0) in
    if_ok (λ (o : Outcome). o ≡ outcome (searched team) end)
    (λ (o : Outcome). Legal (search_over c.args.task.now c.args.index.now 1 c.args.queues) o) c.ended.result
    (alone_legal (search_over c.args.task.now c.args.index.now 1 c.args.queues)
    (search_fits c.args.task.now c.args.index.now 1 c.args.queues c.new-search.ensures.searched (omega arith)
    c.requires.queues.0) team
    (c.in_ok-team.ensures.searches ∙ ground_same _ _ 1 c.args.queues c.new-search.ensures.search) ends)
    (c.ended.ensures end ends.stands)

pub returns-clause-straight : goal.returns-clause-straight
returns-clause-straight g c =
    let team = c.in_ok-team.team in
    let ends = c.in_ok-team.ensures.ends in
    let end = played (searched team) (replicate ends.turns 0) in
    if_ok (λ (o : Outcome). o ≡ outcome (searched team) end) IsStraight c.ended.result
    (alone_straight (search_over c.args.task.now c.args.index.now 1 c.args.queues)
    (search_fits c.args.task.now c.args.index.now 1 c.args.queues c.new-search.ensures.searched (omega arith)
    c.requires.queues.0) team
    (c.in_ok-team.ensures.searches ∙ ground_same _ _ 1 c.args.queues c.new-search.ensures.search) ends
    refl)
    (c.ended.ensures end ends.stands)

pub returns-clause-answer : goal.returns-clause-answer
returns-clause-answer g c =
    if_ok (λ (o : Outcome). Legal (search_over c.args.task.now c.args.index.now 1 c.args.queues) o)
    (λ (o : Outcome). o.pairs ≡ collection_answer c.args.task.now.collection c.args.task.now.query c.args.task.now.k)
    c.ended.result
    (λ (o : Outcome) (legal : Legal (search_over c.args.task.now c.args.index.now 1 c.args.queues) o).
    legal.pairs ∙ answer_is c.args.task.now c.args.index.now 1 c.args.queues)
    (returns-clause-legal g c)
