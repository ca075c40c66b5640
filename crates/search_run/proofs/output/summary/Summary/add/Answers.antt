use Rattle.std.proofs.Common.{refl, ◌^◌, ◌≤◌, rules}
use Rattle.series_core.specs.declared.pair.Pair.{Pair}
use Rattle.search_run.proofs.Summing.{sum_next, sum_within}
use Rattle.search_run.proofs.output.summary.Summary.add.Goals as goal

pub loop-pair-preserved : goal.loop-pair-preserved
loop-pair-preserved c =
    let before = c.loop-pair.invariant in
    let near : c.from.result ≤ 2 ^ 64 = search rules in
    let low : c.from-in-loop-pair.result ≤ 2 ^ 32 = search rules in
    record {
      answers = before.answers;
      distances = sum_next (λ (p : Pair). p.distance) c.args.pairs.now c.loop-pair.pair-index c.args.self.now.distances
          c.loop-pair.self.distances c.from.result _ _ c.loop-pair-test.true before.distances c.from.ensures refl;
      numbers = sum_next (λ (p : Pair). p.number) c.args.pairs.now c.loop-pair.pair-index c.args.self.now.numbers
          c.loop-pair.self.numbers c.from-in-loop-pair.result _ _ c.loop-pair-test.true before.numbers c.from-in-loop-pair.ensures refl;
      near = sum_within c.loop-pair.pair-index (2 ^ 64) c.args.self.now.distances c.loop-pair.self.distances c.from.result _
          before.near near refl;
      low = sum_within c.loop-pair.pair-index (2 ^ 32) c.args.self.now.numbers c.loop-pair.self.numbers
          c.from-in-loop-pair.result _ before.low low refl;
    }
