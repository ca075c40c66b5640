use Rattle.std.proofs.Common.{ap, arith, length, ◌∙◌, ◌≡◌}
use Rattle.search_machine.specs.Ground.{start_limit}
use Rattle.search_machine.specs.Shared.{Held}
use Rattle.search_task.specs.Questions.{last_of, search_over}
use Rattle.search_task.proofs.Searching.{lent_same}
use Rattle.query_core.specs.OneThread.{opening_hand}
use Rattle.query_core.specs.Teams.{TeamParts}
use Rattle.search_task.proofs.Openings.{limit_is_high, limit_same}
use Rattle.query_core.proofs.TeamOpening.{queues_same, team_opens}
use Rattle.query_core.proofs.team.Team.open.Goals as goal

pub new-requires-clause-limit : goal.new-requires-clause-limit
new-requires-clause-limit g c =
    let high = limit_is_high c.args.search.question c.args.search.index 1 1 c.k-k.ensures.searched in
    let limit : c.limit_of-limit.result ≡ start_limit (search_over c.args.search.question c.args.search.index 1 1) =
    c.limit_of-limit.ensures.starts (search_over c.args.search.question c.args.search.index 1 1) c.in_ok-start.ensures.start in
    omega (arith, limit, high, ap last_of c.task.ensures.task)

pub returns-clause-opens : goal.returns-clause-opens
returns-clause-opens g c =
    let s = c.args.search in
    let queues = c.args.queues in
    let hand : c.in_ok-hand.hand ≡ opening_hand (search_over s.question s.index 1 queues) (last_of s.question)
    (length s.index.roots) c.limit_of-limit.result
    = lent_same s _ _ (λ a ix. c.in_ok-hand.hand ≡ opening_hand (search_over a ix 1 queues) (last_of a) (length ix.roots)
    c.limit_of-limit.result) c.task.ensures.task c.index.ensures.index c.in_ok-hand.ensures in
    let team : TeamParts = record {
      question = c.args.search.question;
      index = c.args.search.index;
      queues = c.args.queues;
      start = c.in_ok-start.start;
      hand = c.in_ok-hand.hand;
      workers = c.in_ok-workers.workers.items;
    } in
    team_opens team c.args.workers c.in_ok-workers.ensures.len c.requires.workers.0
    c.in_ok-workers.ensures.hired
    (ap (λ (h : Held). h.word) hand
    ∙ c.limit_of-limit.ensures.starts (search_over s.question s.index 1 1) c.in_ok-start.ensures.start
    ∙ limit_same s.question s.index 1 1 c.args.workers queues)
    (ap (λ (h : Held). h.claimed) hand)
    (ap (λ (h : Held). h.queues) hand ∙ queues_same s.question s.index 1 queues c.args.workers 0 queues)
