use Rattle.std.proofs.Common.{Some, sym, ◌∙◌, ap}
use Rattle.std.proofs.lemmas.Result.{err_from_is_err_and}
use Rattle.certificate.specs.Refusals.{refusal_of}
use Rattle.certificate.specs.Verdict.{leaf_low_refusal}
use Rattle.certificate.proofs.Stepping.{read_here, refused, passed, walked}
use Rattle.certificate.proofs.leaves.check_lows.Goals as goal

pub loop-l-preserved : goal.loop-l-preserved
loop-l-preserved c =
    passed (leaf_low_refusal c.args.b c.args.last) _ c.loop-l.l c.args.leaves.now c.index-leaves-l.result
    c.loop-l.invariant (read_here _ _ _ c.loop-l-test.true c.index-leaves-l.is)
    (sym c.check_low.ensures ∙ ap refusal_of c.in_ok-check_low.was)

pub returns : goal.returns
returns c =
    walked (leaf_low_refusal c.args.b c.args.last) _ c.loop-l.l c.args.leaves.now c.loop-l.invariant c.loop-l-test.false

pub returns-in_err-check_low : goal.returns-in_err-check_low
returns-in_err-check_low c =
    let e = err_from_is_err_and c.from_residual.result c.from_residual.ensures.1 in
    ap refusal_of e.1
    ∙ refused (leaf_low_refusal c.args.b c.args.last) _ c.loop-l.l c.args.leaves.now c.index-leaves-l.result e.0
    c.loop-l.invariant (read_here _ _ _ c.loop-l-test.true c.index-leaves-l.is)
    (sym c.check_low.ensures ∙ ap refusal_of c.in_err-check_low.was ∙ ap Some (sym e.2))
