use Rattle.std.proofs.Common.{rules, ◌≤◌, [], length, arith, refl, ap, ◌∙◌, List}
use Rattle.series_core.specs.declared.pair.Pair.{Pair}
use Rattle.search_run.specs.Batches.{IsTold, told}
use Rattle.search_run.proofs.Piecewise.{all_written, failed_stops, goes_on, left_stops}
use Rattle.search_run.proofs.Writing.{Going-start, false_is_not_true}
use Rattle.search_run.proofs.answers.write_answers.Goals as goal

pub loop-i-init : goal.loop-i-init
loop-i-init g c = (search rules, ([], refl, Going-start g.S.Sink c.args.out.now))

pub returns : goal.returns
returns g c =
    let asked = c.args.batch.now.asked in
    let all : length asked.queries.now.series ≤ c.loop-i.i = omega (arith, c.loop-i-test.false, c.count-i-end.ensures.count) in
    record {
      ok = all_written (IsTold c.args.telling.now (g.R.Rows.collection asked.rows.now) asked.k) c.loop-i.i
          asked.queries.now.series all c.loop-i.invariant.1;
      stops = tt;
      counts = c.loop-i.invariant.1.2.counts;
    }

pub returns-in_err-pairs-clause-stops : goal.returns-in_err-pairs-clause-stops
returns-in_err-pairs-clause-stops g c =
    left_stops g.S.Sink c.args.out.now c.loop-i.out _ c.loop-i.i _ c.from_residual.result c.from_residual.ensures.1 c.loop-i.invariant.1

pub returns-in_err-text-clause-stops : goal.returns-in_err-text-clause-stops
returns-in_err-text-clause-stops g c =
    left_stops g.S.Sink c.args.out.now c.loop-i.out _ c.loop-i.i _ c.from_residual-in_err-text.result c.from_residual-in_err-text.ensures.1 c.loop-i.invariant.1

pub returns-in_err-write_whole-clause-stops : goal.returns-in_err-write_whole-clause-stops
returns-in_err-write_whole-clause-stops g c =
    let asked = c.args.batch.now.asked in
    let new = c.deref.ensures.value ∙ c.in_ok-text.ensures
    ∙ ap (λ (ps : List Pair). told c.args.telling.now c.loop-i.i ps) c.in_ok-pairs.ensures.right in
    let failed = c.in_err-write_whole.ensures in
    failed_stops g.S.Sink c.args.out.now c.loop-i.out c.write_whole.new.sink
    (IsTold c.args.telling.now (g.R.Rows.collection asked.rows.now) asked.k) c.loop-i.i asked.queries.now.series
    c.deref.result.now c.from_residual-in_err-write_whole.result c.from_residual-in_err-write_whole.ensures.1
    (omega (arith, c.loop-i-test.true, c.count-i-end.ensures.count)) new c.loop-i.invariant.1 failed.prefix failed.failed
    (λ room. false_is_not_true (failed.sure room).0)

pub loop-i-preserved : goal.loop-i-preserved
loop-i-preserved g c =
    let new = c.deref.ensures.value ∙ c.in_ok-text.ensures
    ∙ ap (λ (ps : List Pair). told c.args.telling.now c.loop-i.i ps) c.in_ok-pairs.ensures.right in
    let asked = c.args.batch.now.asked in
    let wrote = c.in_ok-write_whole.ensures in (
      c.in_ok-pairs.ensures.ahead,
      goes_on (IsTold c.args.telling.now (g.R.Rows.collection asked.rows.now) asked.k) c.loop-i.i
          asked.queries.now.series c.deref.result.now (omega (arith, c.loop-i-test.true, c.count-i-end.ensures.count)) new
          c.loop-i.invariant.1 wrote.ok wrote.counts wrote.spent,
    )
