-- What a search opens with.
use Rattle.std.proofs.Common.{◌≡◌, ◌<◌, List, ap, arith, length, subst, sym, ◌∙◌}
use Rattle.std.proofs.lemmas.List.{length-map}
use Rattle.std.specs.Prelude.{replicate}
use Rattle.best_word.specs.Passes.{fresh_pass as fresh_seen}
use Rattle.search_task.specs.Questions.{Question, last_of, search_over}
use Rattle.query_core.specs.Working.{Working}
use Rattle.claim_word.specs.Passes.{fresh_pass}
use Rattle.search_task.proofs.Openings.{limit_is_high}
use Rattle.live_query.specs.Parts.{Between}
use Rattle.live_query.specs.RootClaims.{Roots, fresh_drawn}
use Rattle.live_query.proofs.Openers.{all_replicate, team_opens}
use Rattle.live_query.proofs.opening.open.Goals as goal

pub begin-requires-clause-floor : goal.begin-requires-clause-floor
begin-requires-clause-floor g c =
    let s = c.args.plan.now.search in
    let high = limit_is_high s.question s.index 1 1 c.task.ensures.searched in
    let limit = c.limit_of.ensures.starts (search_over s.question s.index 1 1) c.in_ok-start.ensures.start in
    omega (arith, high, limit, ap last_of c.task.ensures.task)

pub returns-clause-count : goal.returns-clause-count
returns-clause-count g c =
    sym (length-map c.in_ok-team.team.items (λ (s : Between). s.worker))
    ∙ ap (λ (ws : List Working). length ws)
    (c.in_ok-team.ensures.workers ∙ c.in_ok-take_shares.ensures.same)
    ∙ omega (arith, c.in_ok-share_limits.ensures.len, c.in_ok-hired.ensures.len)

pub returns-clause-opens : goal.returns-clause-opens
returns-clause-opens g c =
    let a = c.args.plan.now.search.question in
    let ix = c.args.plan.now.search.index in
    let m = c.args.plan.now.queues in
    let best = c.in_ok-word.word in
    let roots = c.in_ok-claims.claims in
    let team : List Between = c.in_ok-team.team.items in
    let many : length team ≡ c.args.workers
    = sym (length-map team (λ (s : Between). s.worker))
    ∙ ap (λ (ws : List Working). length ws)
    (c.in_ok-team.ensures.workers ∙ c.in_ok-take_shares.ensures.same)
    ∙ omega (arith, c.in_ok-share_limits.ensures.len, c.in_ok-hired.ensures.len) in
    record {
      searches = c.root_count.ensures.searched;
      count = c.in_ok-claims.ensures.count ∙ c.root_count.ensures.count;
      size = subst (λ (r : Roots). 0 < r.size) c.claims.view_is c.claims.invariant.0;
      callers = c.in_ok-claims.ensures.workers ∙ sym many;
      start = c.in_ok-word.ensures.start ∙ c.limit_of.ensures.starts (search_over a ix 1 m) c.in_ok-start.ensures.start;
      each = team_opens a ix m roots best team _ (c.in_ok-team.ensures.workers ∙ c.in_ok-take_shares.ensures.same)
          c.in_ok-share_limits.ensures.hired
          (c.in_ok-team.ensures.hands (fresh_drawn (fresh_pass roots.counter)) best (last_of a)
          (all_replicate c.args.workers _ c.in_ok-claims.drawings.items c.in_ok-claims.ensures.drawings)
          (all_replicate c.args.workers _ c.in_ok-word.seen.items
          (c.in_ok-word.ensures.passes
          ∙ ap (λ (b : Question). replicate c.args.workers (fresh_seen best (last_of b))) c.task.ensures.task)));
    }
