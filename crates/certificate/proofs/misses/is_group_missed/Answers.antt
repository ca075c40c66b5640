use Rattle.std.proofs.Common.{[], sym, ap, ◌∙◌, arith}
use Rattle.certificate.specs.Verdict.{last_answer}
use Rattle.std.proofs.lemmas.Option.{get_or_from_slice_get, slice_get_within}
use Rattle.certificate.proofs.Missed.{one_more_block}
use Rattle.certificate.proofs.Stepping.{read_here}
use Rattle.certificate.proofs.misses.is_group_missed.Goals as goal

pub loop-b-init : goal.loop-b-init
loop-b-init g c i block below found = absurd (omega arith)

pub loop-b-preserved : goal.loop-b-preserved
loop-b-preserved g c =
    let rows = g.R.Rows.collection c.args.rows.now in
    let queries = g.Q.Rows.collection c.args.queries.now in
    one_more_block rows queries c.args.k c.args.first c.args.end c.loop-b.b c.args.blocks.now c.index-blocks-b.result
    c.row.result.now c.last_answer-last.result c.pairs-in-loop-b.result.now c.loop-b.invariant
    (read_here _ _ _ c.loop-b-test.true c.index-blocks-b.is)
    (get_or_from_slice_get queries.series c.loop-b.b c.row.result.now [] c.row.ensures)
    (c.last_answer-last.ensures ∙ ap (last_answer rows c.args.k) (c.pairs.ensures ∙ sym c.pairs-in-loop-b.ensures))
    c.pairs-in-loop-b.ensures (c.misses_one_of.ensures c.if-misses_one_of.false)

pub returns : goal.returns
returns g c = λ none b block found.
    c.loop-b.invariant b block (omega (arith, slice_get_within c.args.blocks.now b block found, c.loop-b-test.false)) found
