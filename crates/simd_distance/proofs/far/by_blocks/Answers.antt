-- One block's step of the sum, which never is above the whole distance.
use Rattle.std.proofs.Common.{◌≡◌, ◌+◌, ◌*◌, ◌/◌, ℕ, length, drop, subst, arith}
use Rattle.series_core.specs.Distance.{squared_distance}
use Rattle.series_core.proofs.Limits.{distance_each}
use Rattle.simd_distance.proofs.Walks.{distance_from_block, distance_of_rest}
use Rattle.simd_distance.proofs.far.by_blocks.Goals as goal

pub loop-block-preserved : goal.loop-block-preserved
loop-block-preserved c =
    let step = distance_from_block c.args.x.now c.args.q.now c.loop-block.block (omega arith) (omega arith) in
    omega (arith, c.loop-block.invariant, c.far_distance-sum.ensures)

pub overflow_add-sum : goal.overflow_add-sum
overflow_add-sum c =
    let whole = distance_each c.args.x.now c.args.q.now c.requires.x_fits c.requires.q_fits in
    record { fits = omega (arith, loop-block-preserved c) }

pub returns : goal.returns
returns c =
    let x = c.args.x.now in
    let q = c.args.q.now in
    let rest = length x / 64 * 64 in
    let end = distance_of_rest x q rest in
    let all : c.loop-block.block * 64 ≡ rest = omega arith in
    let sum : c.loop-block.sum + squared_distance (drop rest x) (drop rest q) ≡ squared_distance x q
    = subst (λ (i : ℕ). c.loop-block.sum + squared_distance (drop i x) (drop i q) ≡ squared_distance x q) all
    c.loop-block.invariant in
    omega (arith, c.rest_distance.ensures)

pub overflow_add-result : goal.overflow_add-result
overflow_add-result c =
    let whole = distance_each c.args.x.now c.args.q.now c.requires.x_fits c.requires.q_fits in
    record { fits = omega (arith, returns c) }
