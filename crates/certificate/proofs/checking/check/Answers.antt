use Rattle.std.proofs.Common.{◌≡◌, Some, [], length, sym, ◌∙◌, ap, arith}
use Rattle.std.specs.Option.{option_copied}
use Rattle.std.proofs.lemmas.Option.{get_or_from_slice_get}
use Rattle.std.proofs.lemmas.Result.{err_from_is_err_and}
use Rattle.certificate.specs.Refusals.{refusal_of}
use Rattle.certificate.specs.Missing.{block_misses}
use Rattle.certificate.specs.Verdict.{block_refusal, query_refusal}
use Rattle.certificate.proofs.Missed.{block_passes, block_refused, lines_refuse, misses_refuse}
use Rattle.certificate.proofs.Stepping.{read_here, passed, walked}
use Rattle.certificate.proofs.Whole.{verdict_answers, verdict_blocks}
use Rattle.certificate.proofs.checking.check.Goals as goal

pub loop-b-init : goal.loop-b-init
loop-b-init g c =
    let as_many : length c.args.blocks.now ≡ length (g.Q.Rows.collection c.args.queries.now).series =
    omega (arith, c.count-want.ensures.count) in
    verdict_blocks (g.R.Rows.collection c.args.rows.now) (option_copied c.args.labels)
    (g.Q.Rows.collection c.args.queries.now) c.args.k c.args.layout.now c.args.blocks.now as_many

pub check_missed-requires-clause-known : goal.check_missed-requires-clause-known
check_missed-requires-clause-known g c none =
    let rows = g.R.Rows.collection c.args.rows.now in
    let queries = g.Q.Rows.collection c.args.queries.now in
    ap (λ q. block_misses rows c.args.k c.loop-b.b q c.index-blocks-b.result)
    (sym (get_or_from_slice_get queries.series c.loop-b.b c.row-query.result.now [] c.row-query.ensures))
    ∙ c.is_any_missed-missed.ensures none c.loop-b.b c.index-blocks-b.result
    (read_here _ _ _ c.loop-b-test.true c.index-blocks-b.is)

pub loop-b-preserved : goal.loop-b-preserved
loop-b-preserved g c =
    let rows = g.R.Rows.collection c.args.rows.now in
    let queries = g.Q.Rows.collection c.args.queries.now in
    let labels = option_copied c.args.labels in
    passed (query_refusal rows labels queries c.args.k c.args.layout.now) _ c.loop-b.b c.args.blocks.now
    c.index-blocks-b.result c.loop-b.invariant (read_here _ _ _ c.loop-b-test.true c.index-blocks-b.is)
    (ap (λ q. block_refusal rows labels c.args.k c.args.layout.now c.loop-b.b q c.index-blocks-b.result)
    (get_or_from_slice_get queries.series c.loop-b.b c.row-query.result.now [] c.row-query.ensures)
    ∙ block_passes rows labels c.args.k c.args.layout.now c.loop-b.b c.row-query.result.now c.index-blocks-b.result
    (sym c.check_lines.ensures ∙ ap refusal_of c.in_ok-check_lines.was)
    (sym c.check_missed.ensures ∙ ap refusal_of c.in_ok-check_missed.was))

pub returns-in_err-check_lines-clause-verdict : goal.returns-in_err-check_lines-clause-verdict
returns-in_err-check_lines-clause-verdict g c =
    let rows = g.R.Rows.collection c.args.rows.now in
    let labels = option_copied c.args.labels in
    let e = err_from_is_err_and c.from_residual.result c.from_residual.ensures.1 in
    ap refusal_of e.1
    ∙ block_refused rows labels (g.Q.Rows.collection c.args.queries.now) c.args.k c.args.layout.now _ c.loop-b.b
    c.args.blocks.now c.index-blocks-b.result c.row-query.result.now e.0 c.loop-b.invariant
    (read_here _ _ _ c.loop-b-test.true c.index-blocks-b.is) c.row-query.ensures
    (lines_refuse rows labels c.args.k c.args.layout.now c.loop-b.b c.row-query.result.now c.index-blocks-b.result e.0
    (sym c.check_lines.ensures ∙ ap refusal_of c.in_err-check_lines.was ∙ ap Some (sym e.2)))

pub returns-in_err-check_missed-clause-verdict : goal.returns-in_err-check_missed-clause-verdict
returns-in_err-check_missed-clause-verdict g c =
    let rows = g.R.Rows.collection c.args.rows.now in
    let labels = option_copied c.args.labels in
    let e = err_from_is_err_and c.from_residual-in_err-check_missed.result c.from_residual-in_err-check_missed.ensures.1 in
    ap refusal_of e.1
    ∙ block_refused rows labels (g.Q.Rows.collection c.args.queries.now) c.args.k c.args.layout.now _ c.loop-b.b
    c.args.blocks.now c.index-blocks-b.result c.row-query.result.now e.0 c.loop-b.invariant
    (read_here _ _ _ c.loop-b-test.true c.index-blocks-b.is) c.row-query.ensures
    (misses_refuse rows labels c.args.k c.args.layout.now c.loop-b.b c.row-query.result.now c.index-blocks-b.result e.0
    (sym c.check_lines.ensures ∙ ap refusal_of c.in_ok-check_lines.was)
    (sym c.check_missed.ensures ∙ ap refusal_of c.in_err-check_missed.was ∙ ap Some (sym e.2)))

pub returns-clause-verdict : goal.returns-clause-verdict
returns-clause-verdict g c =
    walked (query_refusal (g.R.Rows.collection c.args.rows.now) (option_copied c.args.labels)
    (g.Q.Rows.collection c.args.queries.now) c.args.k c.args.layout.now) _ c.loop-b.b c.args.blocks.now
    c.loop-b.invariant c.loop-b-test.false

pub returns-clause-answers : goal.returns-clause-answers
returns-clause-answers g c =
    verdict_answers (g.R.Rows.collection c.args.rows.now) (option_copied c.args.labels)
    (g.Q.Rows.collection c.args.queries.now) c.args.k c.args.layout.now c.args.blocks.now c.requires.some
    (sym (returns-clause-verdict g c))
