-- The team is hired fresh for its limit, and once it has drawn all stretches, its lists merged are all that is to be found.
use Rattle.std.proofs.Common.{ℕ, ◌≤◌, [], All, ap, sym, ◌∙◌, subst, arith}
use Rattle.list_team.specs.Searchers.{IsFresh, merged}
use Rattle.search_task.specs.Questions.{Question, last_of}
use Rattle.nearest_answer.specs.Team.{AreCut, HasAll}
use Rattle.nearest_answer.proofs.Drawing.{all_met}
use Rattle.nearest_answer.proofs.Hiring.{fresh_words, some_hired}
use Rattle.nearest_answer.proofs.team.found_together.Goals as goal

pub draw_together-requires-clause-fresh : goal.draw_together-requires-clause-fresh
draw_together-requires-clause-fresh g c κs within =
    let best = c.in_ok-best.best in
    let asked = c.task.result.now in
    let team = c.in_ok-team.team.items in
    subst (λ (a : Question). All (IsFresh c.in_ok-claims.claims best (last_of a) c.args.search.now.question.k) team) c.task.ensures.task
    (subst (λ (k : ℕ). All (IsFresh c.in_ok-claims.claims best (last_of asked) k) team) c.k-k.ensures.k
    (c.in_ok-team.ensures.fresh (last_of asked) (fresh_words c.min-workers.result c.in_ok-best.ensures.passes)))

pub draw_together-requires-clause-cut : goal.draw_together-requires-clause-cut
draw_together-requires-clause-cut g c κs within =
    subst (AreCut c.args.search.now c.args.what) (sym (c.in_ok-claims.ensures.count ∙ c.from.ensures)) c.in_ok-count.ensures

pub returns : goal.returns
returns g c =
    let s = c.args.search.now in
    let what = c.args.what in
    let count = c.in_ok-claims.claims.count in
    let cut = subst (AreCut s what) (sym (c.in_ok-claims.ensures.count ∙ c.from.ensures)) c.in_ok-count.ensures in
    let team = c.draw_together.new.team in
    let one : 1 ≤ c.min-workers.result = omega (arith, c.min-workers.ensures, c.max.ensures, c.requires.workers.0) in
    let some = some_hired c.in_ok-claims.claims c.in_ok-claims.passes c.in_ok-team.team team c.in_ok-claims.ensures.passes one
    c.in_ok-team.ensures.len c.draw_together.ensures.len in
    subst (HasAll s what) (sym (c.in_ok-found.ensures.pairs ∙ ap (λ (k : ℕ). merged k [] team.items) c.k-k.ensures.k))
    (all_met s c.k-k.ensures.searched what count cut team.items some c.draw_together.ensures.done c.in_ok-found.ensures.drawn)
