-- What the searchers know before the fill part, and what the closed claims say after it.
use Rattle.std.proofs.Common.{◌<◌, arith}
use Rattle.live_query.proofs.FillGather.{all_filled, all_knowing, all_serving, own_passes}
use Rattle.live_query.proofs.Openers.{all_own, all_word}
use Rattle.live_query.proofs.fill_part.fill_part.Goals as goal

pub equip-requires : goal.equip-requires
equip-requires g c =
    let a = c.args.plan.now.search.question in
    let ix = c.args.plan.now.search.index in
    let some : 0 < c.args.plan.now.queues = omega (arith, c.requires.queues.0) in
    record {
      word = all_word a ix c.args.plan.now.queues c.args.claims c.args.word.now some c.args.team.items c.requires.opens;
      own = all_own a ix c.args.plan.now.queues c.args.claims c.args.word.now some c.args.team.items c.requires.opens;
    }

pub fill_together-requires-clause-serves : goal.fill_together-requires-clause-serves
fill_together-requires-clause-serves g c κs within =
    all_serving c.args.plan.now.search.question c.args.plan.now.search.index c.args.plan.now.queues c.args.claims c.args.word.now
    (omega (arith, c.requires.queues.0)) c.args.team.items c.requires.opens c.in_ok-team.team.items c.in_ok-team.ensures

pub fill_together-requires-clause-knows : goal.fill_together-requires-clause-knows
fill_together-requires-clause-knows g c κs within =
    all_knowing c.args.plan.now.search.question c.args.plan.now.search.index c.args.plan.now.queues c.args.claims c.args.word.now
    (omega (arith, c.requires.queues.0)) c.args.team.items c.requires.opens c.in_ok-team.team.items c.in_ok-team.ensures

pub close-requires-clause-own : goal.close-requires-clause-own
close-requires-clause-own g c =
    own_passes c.args.plan.now.search.question c.args.plan.now.search.index c.args.plan.now.queues c.args.claims c.args.word.now
    (omega (arith, c.requires.queues.0)) c.args.team.items c.requires.opens
    c.in_ok-team.team.items c.fill_together.new.team.items c.in_ok-team.ensures
    (omega (arith, c.fill_together.ensures.len, c.fill_together.new.team.ok.0, c.in_ok-team.team.ok.0))
    c.fill_together.ensures.goes_on c.in_ok-passes.passes.items c.in_ok-passes.ensures.passes

pub returns-clause-filled : goal.returns-clause-filled
returns-clause-filled g c =
    all_filled c.args.plan.now.search.question c.args.plan.now.search.index c.args.plan.now.queues c.args.claims c.args.word.now
    (omega (arith, c.requires.queues.0)) c.args.team.items c.requires.opens
    c.in_ok-team.team.items c.fill_together.new.team.items c.in_ok-team.ensures
    (omega (arith, c.fill_together.ensures.len, c.fill_together.new.team.ok.0, c.in_ok-team.team.ok.0))
    c.fill_together.ensures.goes_on c.in_ok-passes.passes.items c.in_ok-passes.ensures.passes
    c.fill_together.ensures.knows c.fill_together.ensures.filled c.close.ensures
    c.in_ok-passes.team.items c.in_ok-passes.ensures.team
