-- One series more of the group is taken in; in the end they are all that it has.
use Rattle.std.proofs.Common.{◌≤◌, ◌<◌, ◌*◌, ⊎_elim, refl, arith}
use Rattle.list_totals.specs.Standing.{In}
use Rattle.discord_query.proofs.Weighing.{weighed_none, weighed_next, weighed_group}
use Rattle.discord_query.proofs.team.weigh_group.Goals as goal

pub loop-number-init : goal.loop-number-init
loop-number-init g c = record {
  low = omega arith;
  told = c.requires.told;
  weighed = weighed_none (g.R.Rows.collection c.args.search.now.rows.now) c.args.search.now.k
      (c.args.group * c.args.search.now.size) c.args.list.now c.requires.part;
}

pub weigh-requires-clause-new : goal.weigh-requires-clause-new
weigh-requires-clause-new g c = λ p has.
    let was = c.loop-number.invariant in
    ⊎_elim
    (λ (t : In p c.args.list.now.pairs). let below = c.requires.new p t in omega (arith, below, was.low))
    (λ (t : (c.args.group * c.args.search.now.size ≤ p.number) × (p.number < c.loop-number.number)). t.1)
    (was.weighed.only p has)

pub loop-number-preserved : goal.loop-number-preserved
loop-number-preserved g c =
    let was = c.loop-number.invariant in record {
      low = omega (arith, was.low);
      told = c.weigh.ensures.told;
      weighed = weighed_next (g.R.Rows.collection c.args.search.now.rows.now) c.args.search.now.k
          (c.args.group * c.args.search.now.size) c.loop-number.number c.args.list.now c.loop-number.list
          c.weigh.new.list was.low was.weighed c.in_ok-weigh.ensures.weighed;
    }

pub returns-clause-weighed : goal.returns-clause-weighed
returns-clause-weighed g c =
    let was = c.loop-number.invariant in
    weighed_group (g.R.Rows.collection c.args.search.now.rows.now) c.args.search.now.k c.args.search.now.size
    c.args.group (c.args.group * c.args.search.now.size) c.loop-number.number c.args.list.now c.loop-number.list
    c.requires.ready.size refl (omega arith) was.weighed
