-- Sixteen words more.
use Rattle.std.proofs.Common.{arith}
use Rattle.row_codes.proofs.Held.{held_all, held_none, held_on}
use Rattle.row_codes.proofs.lanes.dot.Goals as goal

pub loop-sixteen-init : goal.loop-sixteen-init
loop-sixteen-init c = held_none c.args.words.now c.args.query.now

pub loop-sixteen-preserved : goal.loop-sixteen-preserved
loop-sixteen-preserved c = held_on c.with_sixteen-sums.ensures

pub lane_sum-requires : goal.lane_sum-requires
lane_sum-requires c = c.loop-sixteen.invariant.fits

pub returns : goal.returns
returns c =
    held_all c.loop-sixteen.sixteen c.args.words.now c.args.query.now _ c.lane_sum.result (omega arith) c.loop-sixteen.invariant
    c.requires.words c.requires.query c.lane_sum.ensures
