-- One group more was drawn and taken in.
use Rattle.std.proofs.Common.{ap, ◌∙◌, ⊎_elim, arith}
use Rattle.list_totals.specs.Standing.{In}
use Rattle.claim_word.specs.Passes.{Pass}
use Rattle.discord_query.specs.Groups.{IsOfGroup}
use Rattle.discord_query.proofs.Grouping.{before_group}
use Rattle.discord_query.proofs.Weighing.{holds_more}
use Rattle.discord_query.proofs.team.draw_all.Goals as goal

pub weigh_group-requires-clause-group : goal.weigh_group-requires-clause-group
weigh_group-requires-clause-group g c = c.requires.cut.real c.in-Some.drawn c.in-Some.ensures.number.0

pub weigh_group-requires-clause-new : goal.weigh_group-requires-clause-new
weigh_group-requires-clause-new g c = λ p has.
    before_group c.args.search.now.size c.loop-drawn.worker.pass.met c.in-Some.drawn p.number
    c.requires.ready.size (c.loop-drawn.invariant.below p has) c.in-Some.ensures.number.1

pub loop-drawn-preserved : goal.loop-drawn-preserved
loop-drawn-preserved g c =
    let was = c.loop-drawn.invariant in
    let drawn = c.in-Some.ensures.drawn in
    let met = ap (λ (p : Pass). p.met) drawn in
    let number = c.in-Some.ensures.number in
    let size = c.args.search.now.size in
    let done = c.in_ok-weigh_group.ensures.weighed in
    record {
      own = ap (λ (p : Pass). p.claims) drawn ∙ was.own;
      goes_on = ap (λ (p : Pass). p.ended) drawn ∙ was.goes_on;
      met = omega (arith, met, number.0);
      told = c.weigh_group.ensures.told;
      part = done.part;
      below = λ p has. ⊎_elim
          (λ (t : In p c.loop-drawn.worker.list.pairs). let low = was.below p t in omega (arith, low, met, number.1))
          (λ (e : IsOfGroup size c.in-Some.drawn p.number). omega (arith, met, e))
          (done.only p has);
      holds = holds_more (g.R.Rows.collection c.args.search.now.rows.now) c.args.search.now.k size c.in-Some.drawn
          c.loop-drawn.worker.pass.draws c.draw.new.pass.draws c.loop-drawn.worker.list c.weigh_group.new.list
          was.holds (ap (λ (p : Pass). p.draws) drawn) done;
    }
