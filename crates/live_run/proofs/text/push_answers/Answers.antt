use Rattle.std.proofs.Common.{rules, ◌≡◌, ◌++◌, arith, get_or}
use Rattle.series_core.specs.declared.pair.Pair.{Pair}
use Rattle.live_run.specs.Texts.{answer_line}
use Rattle.run_traffic.proofs.Ranked.{ranked_step}
use Rattle.live_run.proofs.text.push_answers.Goals as goal

pub loop-pair-preserved : goal.loop-pair-preserved
loop-pair-preserved c =
    let before = c.loop-pair.invariant in
    let none : Pair = record { number = 0; distance = 0 } in
    let pair : Pair = get_or c.args.pairs.now c.loop-pair.pair-index none in
    let pushed : c.push_line.new.text.items ≡ c.loop-pair.text.items ++ answer_line c.loop-pair.rank pair
    = search (rules, c.in_ok-push_line.ensures) in
    record {
      rank = omega (arith, before.rank);
      text = ranked_step answer_line c.args.text.now.items c.loop-pair.text.items _ c.loop-pair.rank c.loop-pair.pair-index
          c.args.pairs.now none c.loop-pair-test.true before.rank before.text pushed;
    }
