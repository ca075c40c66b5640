-- One block's step of the sum, which never is above the whole distance.
use Rattle.std.proofs.Common.{◌≡◌, ◌+◌, ◌-◌, ◌*◌, ◌/◌, ◌≤◌, ℕ, ℤ, List, drop, take, length, subst, arith}
use Rattle.std.specs.Simd.Lanes.{chunk}
use Rattle.series_core.specs.Distance.{squared_distance}
use Rattle.series_core.proofs.Limits.{distance_each}
use Rattle.simd_distance.proofs.Walks.{distance_from_part, distance_of_rest}
use Rattle.simd_distance.proofs.kernel.distance_within.Goals as goal

-- the first block and what is left behind it
first_part : (xs ys : List ℤ) → 32 ≤ length xs → length xs ≡ length ys
    → squared_distance xs ys
    ≡ squared_distance (chunk 0 32 xs) (chunk 0 32 ys) + squared_distance (drop 32 xs) (drop 32 ys)
first_part xs ys long same = distance_from_part xs ys 0 32 32 (omega arith) (omega arith) (omega arith)

-- a later block and what is left behind it
next_part : (xs ys : List ℤ) (i : ℕ) → 32 + i * 64 + 64 ≤ length xs → length xs ≡ length ys
    → squared_distance (drop (32 + i * 64) xs) (drop (32 + i * 64) ys)
    ≡ squared_distance (chunk (32 + i * 64) 64 xs) (chunk (32 + i * 64) 64 ys)
    + squared_distance (drop (32 + (i + 1) * 64) xs) (drop (32 + (i + 1) * 64) ys)
next_part xs ys i long same =
    distance_from_part xs ys (32 + i * 64) 64 (32 + (i + 1) * 64) (omega arith) (omega arith)
    (omega arith)

pub returns-then-sum-limit : goal.returns-then-sum-limit
returns-then-sum-limit c =
    let parts = first_part c.args.x.now c.args.q.now (omega arith) c.requires.same_length in
    omega (arith, c.near_part.ensures)

pub loop-block-init : goal.loop-block-init
loop-block-init c =
    let parts = first_part c.args.x.now c.args.q.now (omega arith) c.requires.same_length in
    record { whole = omega (arith, c.near_part.ensures); small = omega arith }

pub overflow_add-sum : goal.overflow_add-sum
overflow_add-sum c =
    let x = c.args.x.now in
    let q = c.args.q.now in
    let step = next_part x q c.loop-block.block (omega arith) c.requires.same_length in
    let whole = distance_each x q c.values_fit.ensures c.values_fit-2.ensures in
    record { fits = omega (arith, c.loop-block.invariant.whole, c.near_part-in-loop-block.ensures) }

pub returns-then-sum-limit-2 : goal.returns-then-sum-limit-2
returns-then-sum-limit-2 c =
    let step = next_part c.args.x.now c.args.q.now c.loop-block.block (omega arith)
    c.requires.same_length in
    omega (arith, c.loop-block.invariant.whole, c.near_part-in-loop-block.ensures)

pub loop-block-preserved : goal.loop-block-preserved
loop-block-preserved c =
    let step = next_part c.args.x.now c.args.q.now c.loop-block.block (omega arith)
    c.requires.same_length in
    record {
      whole = omega (arith, c.loop-block.invariant.whole, c.near_part-in-loop-block.ensures);
      small = omega arith;
    }

-- what is behind the last block
last_part : (xs ys : List ℤ) (i : ℕ)
    → squared_distance (take (length xs - (32 + i * 64)) (drop (32 + i * 64) xs))
    (take (length ys - (32 + i * 64)) (drop (32 + i * 64) ys))
    ≡ squared_distance (drop (32 + i * 64) xs) (drop (32 + i * 64) ys)
last_part xs ys i = distance_of_rest xs ys (32 + i * 64)

pub overflow_add-sum-2 : goal.overflow_add-sum-2
overflow_add-sum-2 c =
    let x = c.args.x.now in
    let q = c.args.q.now in
    let blocks = (length x - 32) / 64 in
    let end = last_part x q blocks in
    let all : c.loop-block.block ≡ blocks = omega arith in
    let sum : c.loop-block.sum + squared_distance (drop (32 + blocks * 64) x) (drop (32 + blocks * 64) q)
    ≡ squared_distance x q
    = subst (λ (i : ℕ). c.loop-block.sum
    + squared_distance (drop (32 + i * 64) x) (drop (32 + i * 64) q) ≡ squared_distance x q) all
    c.loop-block.invariant.whole in
    let whole = distance_each x q c.values_fit.ensures c.values_fit-2.ensures in
    record { fits = omega (arith, c.rest_distance-sum.ensures) }
