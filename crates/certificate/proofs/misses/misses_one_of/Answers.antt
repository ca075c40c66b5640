use Rattle.std.proofs.Common.{sym, ◌∙◌, arith}
use Rattle.certificate.proofs.Missed.{none_yet, one_more}
use Rattle.certificate.proofs.misses.misses_one_of.Goals as goal

pub loop-number-init : goal.loop-number-init
loop-number-init g c =
    none_yet (g.R.Rows.collection c.args.rows.now) c.args.query.now c.args.last c.args.answers.now c.args.first

pub loop-number-preserved : goal.loop-number-preserved
loop-number-preserved g c =
    one_more (g.R.Rows.collection c.args.rows.now) c.args.query.now c.args.last c.args.answers.now c.args.first
    c.loop-number.number c.row.result.now c.loop-number.invariant c.row.ensures
    (sym c.is_missed.ensures ∙ c.if-is_missed.false)

pub returns : goal.returns
returns g c not n above below =
    c.loop-number.invariant n above (omega (arith, c.loop-number-test.false))
