use Rattle.std.proofs.Common.{arith}
use Rattle.run_traffic.proofs.Ranked.{ranked_step}
use Rattle.search_run.specs.Texts.{answer_line}
use Rattle.search_run.proofs.output.text.push_answers.Goals as goal

pub loop-pair-preserved : goal.loop-pair-preserved
loop-pair-preserved c =
    let before = c.loop-pair.invariant in
    record {
      rank = omega (arith, before.rank);
      text = ranked_step (answer_line c.args.labels.now) c.args.text.now.items c.loop-pair.text.items _ c.loop-pair.rank
          c.loop-pair.pair-index c.args.pairs.now _ c.loop-pair-test.true before.rank before.text c.in_ok-push_answer.ensures;
    }
