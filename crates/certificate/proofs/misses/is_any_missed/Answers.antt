use Rattle.std.proofs.Common.{◌*◌, [], arith}
use Rattle.std.specs.Prelude.{slice_index_or}
use Rattle.std.proofs.lemmas.Option.{slice_get_within}
use Rattle.certificate.specs.Verdict.{last_answer}
use Rattle.certificate.proofs.Missed.{none_missed}
use Rattle.certificate.proofs.misses.is_any_missed.Goals as goal

pub returns : goal.returns
returns g c = λ none b block found.
    let rows = g.R.Rows.collection c.args.rows.now in
    let queries = g.Q.Rows.collection c.args.queries.now in
    none_missed rows b (slice_index_or queries.series b []) (last_answer rows c.args.k block.answers) block.answers
    (c.loop-group.group * 128)
    (λ n xs row. omega (arith, slice_get_within rows.series n xs row, c.loop-group-test.false, c.count-count.ensures.count, c.div_ceil-group-end.ensures))
    (c.loop-group.invariant b block found)
