use Rattle.std.proofs.Common.{◌≤◌, length, sym, ◌∙◌, ap, arith}
use Rattle.certificate.specs.declared.error.Reject.TheVariants.{Missed}
use Rattle.certificate.specs.Refusals.{when}
use Rattle.certificate.specs.Verdict.{missed_refusal}
use Rattle.certificate.proofs.Stepping.{refused, passed, walked}
use Rattle.certificate.proofs.misses.check_misses.Goals as goal

pub returns-then-is_missed : goal.returns-then-is_missed
returns-then-is_missed g c =
    let series = (g.R.Rows.collection c.args.rows.now).series in
    refused (missed_refusal c.args.b c.args.query.now c.args.last c.args.answers.now) _ c.loop-number.number series
    c.row.result.now (Missed c.args.b c.loop-number.number) c.loop-number.invariant c.row.ensures
    (ap (λ b. when b (Missed c.args.b c.loop-number.number)) (sym c.is_missed.ensures ∙ c.if-is_missed.true))

pub loop-number-preserved : goal.loop-number-preserved
loop-number-preserved g c =
    let series = (g.R.Rows.collection c.args.rows.now).series in
    passed (missed_refusal c.args.b c.args.query.now c.args.last c.args.answers.now) _ c.loop-number.number series
    c.row.result.now c.loop-number.invariant c.row.ensures
    (ap (λ b. when b (Missed c.args.b c.loop-number.number)) (sym c.is_missed.ensures ∙ c.if-is_missed.false))

pub returns : goal.returns
returns g c =
    let past : length (g.R.Rows.collection c.args.rows.now).series ≤ c.loop-number.number =
    omega (arith, c.loop-number-test.false, c.count-number-end.ensures.count) in
    walked (missed_refusal c.args.b c.args.query.now c.args.last c.args.answers.now) _ c.loop-number.number
    (g.R.Rows.collection c.args.rows.now).series c.loop-number.invariant past
