use Rattle.std.proofs.Common.{ap, ◌∙◌, refl, arith, decimal}
use Rattle.run_traffic.specs.Lines.{line_behind}
use Rattle.run_traffic.proofs.Pushing.{behind-append, line_done, number_more}
use Rattle.run_traffic.proofs.lines.push_line.Goals as goal

pub loop-n-init : goal.loop-n-init
loop-n-init c =
    ap (λ text. line_behind text c.args.others.now) c.in_ok-push_number.ensures
    ∙ behind-append c.args.text.now.items (decimal c.args.first) c.args.others.now

pub loop-n-preserved : goal.loop-n-preserved
loop-n-preserved c =
    number_more c.loop-n.text.items _ _ _ c.args.others.now c.loop-n.n-index _ 0 c.loop-n-test.true refl
    c.in_ok-push.ensures.items c.in_ok-push_number-2.ensures c.loop-n.invariant

pub returns : goal.returns
returns c =
    line_done c.loop-n.text.items _ _ c.args.others.now c.loop-n.n-index (omega (arith, c.loop-n-test.false))
    c.in_ok-push-2.ensures.items c.loop-n.invariant
