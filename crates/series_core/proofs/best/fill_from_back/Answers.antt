use Rattle.std.proofs.Common.{arith}
use Rattle.series_core.proofs.Joining.{fill_other, fill_held}
use Rattle.series_core.proofs.best.fill_from_back.Goals as goal

pub loop-count-preserved-then-is_behind : goal.loop-count-preserved-then-is_behind
loop-count-preserved-then-is_behind c =
    fill_other c.args.others.now c.loop-count.pairs _ c.loop-count.count c.loop-count.left _ c.requires.others
    (omega arith) c.loop-count.invariant (c.is_behind.ensures.yes c.if-is_behind.true)

pub loop-count-preserved : goal.loop-count-preserved
loop-count-preserved c =
    let no = c.is_behind.ensures.no c.if-is_behind.false in
    fill_held c.args.others.now c.loop-count.pairs _ c.loop-count.count c.loop-count.left _ _ _ c.requires.others
    (omega arith) c.loop-count.invariant no.0 no.1
