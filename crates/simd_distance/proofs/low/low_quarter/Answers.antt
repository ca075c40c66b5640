-- One step of the lanes' sum.
use Rattle.std.proofs.Common.{◌≡◌, ◌*◌, ◌<◌, ◌≤◌, ℕ, List, map, sym, ap, subst, ◌∙◌, arith}
use Rattle.std.specs.Prelude.{ℤ, FitsSigned}
use Rattle.std.specs.List.{All}
use Rattle.std.proofs.lemmas.List.Elements.{All-take, All-drop}
use Rattle.std.specs.Simd.Lanes.{Each1, chunk, sum_l, zip2}
use mir.Syntax.{w16}
use Rattle.series_core.specs.Distance.{squared_distance}
use Rattle.simd_distance.specs.Lanes.{difference, square_of_half}
use Rattle.simd_distance.proofs.Differences.{differences_small}
use Rattle.simd_distance.proofs.Halves.{half_squares_small, half_squares_sum}
use Rattle.simd_distance.proofs.Squares.{sixteen_small}
use Rattle.simd_distance.proofs.Walks.{distance_from_sixteen}
use Rattle.simd_distance.proofs.low.low_quarter.Goals as goal

-- the differences of sixteen values take 16 bits
numbers_small : (xs ys : List ℤ) (at : ℕ) → All (FitsSigned w16) xs → All (FitsSigned w16) ys
    → Each1 (λ n. n < 65536) (zip2 difference (chunk at 16 xs) (chunk at 16 ys))
numbers_small xs ys at fx fy =
    let fits = FitsSigned w16 in
    differences_small (chunk at 16 xs) (chunk at 16 ys) (All-take fits 16 _ (All-drop fits at xs fx))
    (All-take fits 16 _ (All-drop fits at ys fy))

-- the squares of their halves take 30 bits
squares_small : (xs ys : List ℤ) (at : ℕ) (squares : List ℕ) → All (FitsSigned w16) xs → All (FitsSigned w16) ys
    → squares ≡ map square_of_half (zip2 difference (chunk at 16 xs) (chunk at 16 ys))
    → Each1 (λ n. n ≤ 1073676289) squares
squares_small xs ys at squares fx fy is =
    subst (Each1 (λ n. n ≤ 1073676289)) (sym is) (half_squares_small _ (numbers_small xs ys at fx fy))

pub squares_of_halves-requires-clause-small : goal.squares_of_halves-requires-clause-small
squares_of_halves-requires-clause-small c =
    subst (Each1 (λ n. n < 65536)) (sym c.sixteen_differences-numbers.ensures)
    (numbers_small c.args.x.now c.args.q.now (16 * c.loop-sixteen.sixteen) c.requires.x_fits c.requires.q_fits)

pub sums_of_four-requires-clause-small : goal.sums_of_four-requires-clause-small
sums_of_four-requires-clause-small c =
    squares_small c.args.x.now c.args.q.now (16 * c.loop-sixteen.sixteen) c.squares_of_halves.result
    c.requires.x_fits c.requires.q_fits
    (c.squares_of_halves.ensures ∙ ap (map square_of_half) c.sixteen_differences-numbers.ensures)

pub sums_added-sums-requires : goal.sums_added-sums-requires
sums_added-sums-requires c =
    let is = c.squares_of_halves.ensures ∙ ap (map square_of_half) c.sixteen_differences-numbers.ensures in
    let small = squares_small c.args.x.now c.args.q.now (16 * c.loop-sixteen.sixteen) c.squares_of_halves.result
    c.requires.x_fits c.requires.q_fits is in
    let added = sixteen_small c.squares_of_halves.result (omega arith) small in
    omega (arith, c.loop-sixteen.invariant.small, c.sums_of_four.ensures)

pub loop-sixteen-preserved : goal.loop-sixteen-preserved
loop-sixteen-preserved c =
    let is = c.squares_of_halves.ensures ∙ ap (map square_of_half) c.sixteen_differences-numbers.ensures in
    let x = c.args.x.now in
    let q = c.args.q.now in
    let i = c.loop-sixteen.sixteen in
    let small = squares_small x q (16 * i) c.squares_of_halves.result c.requires.x_fits c.requires.q_fits is in
    let added = sixteen_small c.squares_of_halves.result (omega arith) small in
    let part : 4 * sum_l c.squares_of_halves.result ≤ squared_distance (chunk (16 * i) 16 x) (chunk (16 * i) 16 q)
    = subst (λ (ns : List ℕ). 4 * sum_l ns ≤ squared_distance (chunk (16 * i) 16 x) (chunk (16 * i) 16 q)) (sym is)
    (half_squares_sum (chunk (16 * i) 16 x) (chunk (16 * i) 16 q)) in
    let step = distance_from_sixteen x q i (omega arith) (omega arith) in
    record {
      low = omega (arith, c.loop-sixteen.invariant.low, c.sums_of_four.ensures, c.sums_added-sums.ensures);
      small = omega (arith, c.loop-sixteen.invariant.small, c.sums_of_four.ensures, c.sums_added-sums.ensures);
    }
