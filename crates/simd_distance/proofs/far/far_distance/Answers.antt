-- One step of the lanes' sum, which never is above the whole distance.
use Rattle.std.proofs.Common.{arith}
use Rattle.series_core.proofs.Limits.{distance_each}
use Rattle.simd_distance.proofs.Walks.{distance_from_sixteen}
use Rattle.simd_distance.proofs.far.far_distance.Goals as goal

pub loop-sixteen-preserved : goal.loop-sixteen-preserved
loop-sixteen-preserved c =
    let step = distance_from_sixteen c.args.x.now c.args.q.now c.loop-sixteen.sixteen (omega arith) (omega arith) in
    omega (arith, c.loop-sixteen.invariant, c.sixteen_squares.ensures, c.lanes_added-sums.ensures)

pub lane_sum-requires : goal.lane_sum-requires
lane_sum-requires c =
    let whole = distance_each c.args.x.now c.args.q.now c.requires.x_fits c.requires.q_fits in
    omega (arith, c.loop-sixteen.invariant)

pub lanes_added-sums-requires : goal.lanes_added-sums-requires
lanes_added-sums-requires c =
    let step = distance_from_sixteen c.args.x.now c.args.q.now c.loop-sixteen.sixteen (omega arith) (omega arith) in
    let whole = distance_each c.args.x.now c.args.q.now c.requires.x_fits c.requires.q_fits in
    omega (arith, c.loop-sixteen.invariant, c.sixteen_squares.ensures)
