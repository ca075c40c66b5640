use Rattle.std.proofs.Common.{◌≤◌, [], length, arith, sym, refl}
use Rattle.search_run.specs.Texts.{IsMade}
use Rattle.search_run.proofs.Piecewise.{all_written, failed_stops, goes_on, left_stops}
use Rattle.search_run.proofs.Writing.{Going-start, false_is_not_true}
use Rattle.search_run.proofs.output.pieces.write_pieces.Given as given
use Rattle.search_run.proofs.output.pieces.write_pieces.Goals as goal

pub loop-i-init : goal.loop-i-init
loop-i-init g c = ([], refl, Going-start g.S.Sink c.args.out.now)

pub returns : goal.returns
returns g c =
    let series = (g.Q.Rows.collection c.args.queries.now).series in
    let all : length series ≤ c.loop-i.i = omega (arith, c.loop-i-test.false, c.count-i-end.ensures.count) in
    let made = IsMade (given.P-post g c.args.piece_of.now) c.args.context.now in
    record { ok = all_written made c.loop-i.i series all c.loop-i.invariant; stops = tt; counts = c.loop-i.invariant.2.counts }

pub returns-in_err-text-clause-stops : goal.returns-in_err-text-clause-stops
returns-in_err-text-clause-stops g c =
    left_stops g.S.Sink c.args.out.now c.loop-i.out _ c.loop-i.i _ c.from_residual.result c.from_residual.ensures.1 c.loop-i.invariant

pub returns-in_err-write_whole-clause-stops : goal.returns-in_err-write_whole-clause-stops
returns-in_err-write_whole-clause-stops g c =
    let made = IsMade (given.P-post g c.args.piece_of.now) c.args.context.now in
    let failed = c.in_err-write_whole.ensures in
    failed_stops g.S.Sink c.args.out.now c.loop-i.out c.write_whole.new.sink made
    c.loop-i.i (g.Q.Rows.collection c.args.queries.now).series c.deref.result.now
    c.from_residual-in_err-write_whole.result c.from_residual-in_err-write_whole.ensures.1
    (omega (arith, c.loop-i-test.true, c.count-i-end.ensures.count))
    (c.args.context, c.row_of.result, c.in_ok-text.text, c.in_ok-text.ensures, refl, c.row_of.ensures.row, sym c.deref.ensures.value)
    c.loop-i.invariant failed.prefix failed.failed (λ room. false_is_not_true (failed.sure room).0)

pub loop-i-preserved : goal.loop-i-preserved
loop-i-preserved g c =
    let made = IsMade (given.P-post g c.args.piece_of.now) c.args.context.now in
    let wrote = c.in_ok-write_whole.ensures in
    goes_on made c.loop-i.i (g.Q.Rows.collection c.args.queries.now).series c.deref.result.now
    (omega (arith, c.loop-i-test.true, c.count-i-end.ensures.count))
    (c.args.context, c.row_of.result, c.in_ok-text.text, c.in_ok-text.ensures, refl, c.row_of.ensures.row, sym c.deref.ensures.value)
    c.loop-i.invariant wrote.ok wrote.counts wrote.spent
