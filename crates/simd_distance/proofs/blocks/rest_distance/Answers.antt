-- Whole sixteens and the rest are all of it.
use Rattle.std.proofs.Common.{◌*◌, ◌/◌, length, arith}
use Rattle.series_core.proofs.Limits.{distance_each}
use Rattle.simd_distance.proofs.Walks.{distance_from_part, distance_of_rest}
use Rattle.simd_distance.proofs.blocks.rest_distance.Goals as goal

pub overflow_add-result : goal.overflow_add-result
overflow_add-result c =
    let x = c.args.x.now in
    let q = c.args.q.now in
    let most = length x / 16 * 16 in
    let parts = distance_from_part x q 0 most most (omega arith) (omega arith) (omega arith) in
    let end = distance_of_rest x q most in
    let whole = distance_each x q c.requires.x_fits c.requires.q_fits in
    record { fits = omega (arith, c.block_distance-most.ensures, c.distance.ensures.value) }

pub returns : goal.returns
returns c =
    let x = c.args.x.now in
    let q = c.args.q.now in
    let most = length x / 16 * 16 in
    let parts = distance_from_part x q 0 most most (omega arith) (omega arith) (omega arith) in
    let end = distance_of_rest x q most in
    omega (arith, c.block_distance-most.ensures, c.distance.ensures.value)
