-- One line more.
use Rattle.std.proofs.Common.{ℕ, [], ◌∷◌, arith}
use Rattle.series_core.specs.declared.pair.Pair.{Pair}
use Rattle.run_traffic.specs.Lines.{line_of}
use Rattle.run_traffic.proofs.Ranked.{ranked_step}
use Rattle.examples.proofs.certified.push_answers.Goals as goal

pub loop-pair-preserved : goal.loop-pair-preserved
loop-pair-preserved c =
    let before = c.loop-pair.invariant in
    record {
      rank = omega (arith, before.rank);
      text = ranked_step (λ (r : ℕ) (p : Pair). line_of r (p.number ∷ p.distance ∷ [])) c.args.text.now.items c.loop-pair.text.items _
          c.loop-pair.rank c.loop-pair.pair-index c.args.pairs.now _ c.loop-pair-test.true before.rank before.text c.in_ok-push_answer.ensures;
    }
