-- What is near below one group more is found.
use Rattle.std.proofs.Common.{ap, ◌∙◌, arith}
use Rattle.claim_word.specs.Passes.{Pass}
use Rattle.range_query.specs.Searches.{asked_of}
use Rattle.range_query.proofs.Drawing.{drawn_more}
use Rattle.range_query.proofs.team.draw_all.Goals as goal

pub loop-drawn-preserved : goal.loop-drawn-preserved
loop-drawn-preserved g c =
    let drawn = c.in-Some.ensures.drawn in
    let met = ap (λ (p : Pass). p.met) drawn in
    record {
      own = ap (λ (p : Pass). p.claims) drawn ∙ c.loop-drawn.invariant.own;
      goes_on = ap (λ (p : Pass). p.ended) drawn ∙ c.loop-drawn.invariant.goes_on;
      met = omega (arith, met, c.in-Some.ensures.number.0);
      none = c.loop-drawn.invariant.none;
      all_near =
          drawn_more (asked_of g.R.Rows.collection c.args.search.now) c.args.search.now.index.now
          c.args.search.now.size c.loop-drawn.worker.pass.draws c.draw.new.pass.draws c.in-Some.drawn
          c.loop-drawn.found.items c.search_group.new.found.items c.loop-drawn.invariant.all_near
          (ap (λ (p : Pass). p.draws) drawn) c.in-Ok.ensures;
    }
