use Rattle.std.proofs.Common.{sym, ap, ◌∙◌, get_or}
use Rattle.series_core.specs.declared.pair.Pair.{Pair}
use Rattle.window_rows.specs.Choice.{added}
use Rattle.window_rows.proofs.Ranking.{chosen_nothing, chosen_step}
use Rattle.window_rows.proofs.choosing.choose.Goals as goal

pub loop-pair-init : goal.loop-pair-init
loop-pair-init c = c.new-items.ensures.items ∙ sym (chosen_nothing c.args.apart c.args.k)

pub loop-pair-preserved : goal.loop-pair-preserved
loop-pair-preserved c =
    let first : Pair = record { distance = 0; number = 0 } in
    c.in_ok-take_if_apart.ensures
    ∙ ap (λ xs. added c.args.apart c.args.k xs
    (get_or c.args.pairs.now c.loop-pair.pair-index first)) c.loop-pair.invariant
    ∙ sym (chosen_step c.args.apart c.requires c.args.pairs.now c.loop-pair.pair-index c.args.k
    first c.loop-pair-test.true)
