-- The limit begins above its floor, the team is hired fresh for it, and its lists merged are the k farthest of all.
use Rattle.std.proofs.Common.{◌-◌, All, length, sym, ◌∙◌, subst}
use Rattle.list_team.specs.declared.searcher.Searcher.{Searcher}
use Rattle.series_core.specs.Pairs.{ascending}
use Rattle.series_core.proofs.Parts.{distance_small}
use Rattle.nearest_answer.proofs.Hiring.{fresh_words, some_hired}
use Rattle.discord_query.specs.Discords.{all_farness, least_farness}
use Rattle.discord_query.specs.Done.{IsDone}
use Rattle.discord_query.specs.Groups.{IsCut}
use Rattle.discord_query.proofs.Farness.{all_near}
use Rattle.discord_query.proofs.Together.{all_top}
use Rattle.discord_query.proofs.farthest.by_team.Goals as goal

pub begin-requires-clause-floor : goal.begin-requires-clause-floor
begin-requires-clause-floor g c =
    let all = g.R.Rows.collection c.args.search.now.rows.now in
    distance_small (c.args.search.now.k - 1) (ascending (all_farness all)) (all_near all)

pub draw_together-requires-clause-fresh : goal.draw_together-requires-clause-fresh
draw_together-requires-clause-fresh g c κs within =
    c.in_ok-team.ensures.fresh (least_farness (g.R.Rows.collection c.args.search.now.rows.now) c.args.search.now.k)
    (fresh_words c.args.workers c.in_ok-best.ensures.passes)

pub draw_together-requires-clause-cut : goal.draw_together-requires-clause-cut
draw_together-requires-clause-cut g c κs within =
    let all = g.R.Rows.collection c.args.search.now.rows.now in
    let size = c.args.search.now.size in
    subst (IsCut size (length all.series)) (sym (c.in_ok-claims.ensures.count ∙ c.from-groups.ensures))
    c.group_count.ensures

pub returns : goal.returns
returns g c =
    let all = g.R.Rows.collection c.args.search.now.rows.now in
    let k = c.args.search.now.k in
    let team = c.draw_together.new.team.items in
    let some = some_hired c.in_ok-claims.claims c.in_ok-claims.passes c.in_ok-team.team c.draw_together.new.team
    c.in_ok-claims.ensures.passes c.requires.workers.0 c.in_ok-team.ensures.len c.draw_together.ensures.len in
    let size = c.args.search.now.size in
    let done : All (λ (w : Searcher). IsDone all k size w.pass w.list) team
    = λ n d low. c.draw_together.ensures.done n d low (c.in_ok-list.ensures.ended n d low) in
    let groups = c.in_ok-claims.claims.count in
    let cut : IsCut size (length all.series) groups
    = subst (IsCut size (length all.series)) (sym (c.in_ok-claims.ensures.count ∙ c.from-groups.ensures))
    c.group_count.ensures in
    c.in_ok-list.ensures.pairs ∙ all_top all k size groups team cut some done c.in_ok-list.ensures.drawn
