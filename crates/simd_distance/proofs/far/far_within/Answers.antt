-- One block's step of the lower bound, which never is above the whole distance.
use Rattle.std.proofs.Common.{arith}
use Rattle.series_core.proofs.Limits.{distance_each}
use Rattle.simd_distance.proofs.Walks.{distance_from_block}
use Rattle.simd_distance.proofs.far.far_within.Goals as goal

pub overflow_mul-low : goal.overflow_mul-low
overflow_mul-low c =
    let step = distance_from_block c.args.x.now c.args.q.now c.loop-block.block (omega arith) (omega arith) in
    let whole = distance_each c.args.x.now c.args.q.now c.requires.x_fits c.requires.q_fits in
    record { fits = omega (arith, c.loop-block.invariant, c.low_quarter.ensures) }

pub returns-then-low-limit : goal.returns-then-low-limit
returns-then-low-limit c =
    let step = distance_from_block c.args.x.now c.args.q.now c.loop-block.block (omega arith) (omega arith) in
    omega (arith, c.loop-block.invariant, c.low_quarter.ensures)

pub loop-block-preserved : goal.loop-block-preserved
loop-block-preserved c =
    let step = distance_from_block c.args.x.now c.args.q.now c.loop-block.block (omega arith) (omega arith) in
    omega (arith, c.loop-block.invariant, c.low_quarter.ensures)

pub overflow_add-low : goal.overflow_add-low
overflow_add-low c =
    let step = distance_from_block c.args.x.now c.args.q.now c.loop-block.block (omega arith) (omega arith) in
    let whole = distance_each c.args.x.now c.args.q.now c.requires.x_fits c.requires.q_fits in
    record { fits = omega (arith, c.loop-block.invariant, c.low_quarter.ensures) }
