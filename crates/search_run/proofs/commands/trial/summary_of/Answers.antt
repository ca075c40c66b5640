use Rattle.std.proofs.Common.{◌<◌, ◌∙◌, List, [], length, get_or, arith, ap}
use Rattle.series_core.specs.Answer.{answer}
use Rattle.series_core.specs.declared.pair.Pair.{Pair}
use Rattle.search_run.proofs.Short.{answer_short}
use Rattle.search_run.proofs.Summing.{summed_next}
use Rattle.search_run.proofs.commands.trial.summary_of.Goals as goal

pub add-requires-clause-short : goal.add-requires-clause-short
add-requires-clause-short g c =
    let asked = c.args.batch.now.asked in
    let query = get_or asked.queries.now.series c.loop-i.i [] in
    omega (
      arith,
      ap (λ (ps : List Pair). length ps) (c.deref.ensures.value ∙ c.pairs.view_is ∙ c.in_ok-pairs.ensures.right),
      answer_short (g.R.Rows.collection asked.rows.now) query asked.k,
      c.requires.batch.asked.few,
    )

pub loop-i-preserved : goal.loop-i-preserved
loop-i-preserved g c =
    let before = c.loop-i.invariant in
    let added = c.add.ensures in
    let asked = c.args.batch.now.asked in
    let series = asked.queries.now.series in
    let below : c.loop-i.i < length series = omega (arith, c.loop-i-test.true, c.count-i-end.ensures.count) in
    record {
      ahead = c.in_ok-pairs.ensures.ahead;
      summed = summed_next (λ q. answer (g.R.Rows.collection asked.rows.now) q asked.k) c.loop-i.i series []
          c.loop-i.summary c.add.new.self c.deref.result.now below
          (c.deref.ensures.value ∙ c.pairs.view_is ∙ c.in_ok-pairs.ensures.right) before.summed added.answers added.distances added.numbers;
      few = omega (arith, before.few, added.few);
      near = omega (arith, before.near, added.near);
      low = omega (arith, before.low, added.low);
    }
