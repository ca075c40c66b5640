-- One step of the lanes' sum, and what the bits of all lanes say at the end.
use Rattle.std.proofs.Common.{◌≡◌, ◌*◌, ◌<◌, ◌≤◌, ℕ, List, drop, length, map, sym, ap, subst, ◌∙◌, arith}
use Rattle.std.specs.Prelude.{bit_or}
use Rattle.std.proofs.lemmas.List.{drop_all}
use Rattle.std.specs.Simd.Lanes.{Each1, chunk, fold_l, sum_l}
use Rattle.series_core.specs.Distance.{squared_distance}
use Rattle.simd_distance.specs.Lanes.{IsNear, square_of_low}
use Rattle.simd_distance.proofs.NearLists.{Below, both_below, all_below}
use Rattle.simd_distance.proofs.Squares.{low_squares_small, near_squares_sum, sixteen_small}
use Rattle.simd_distance.proofs.Walks.{distance_from_sixteen}
use Rattle.simd_distance.proofs.near.near_distance.Goals as goal

pub sums_of_four-requires-clause-small : goal.sums_of_four-requires-clause-small
sums_of_four-requires-clause-small c =
    subst (Each1 (λ n. n ≤ 1073676289)) (sym c.squares_of_low.ensures) (low_squares_small _)

-- sixteen squares of low bits add up to less than 2^35
sum_of_low : (squares numbers : List ℕ) → length squares ≡ 16 → squares ≡ map square_of_low numbers
    → sum_l squares ≤ 17178820624
sum_of_low squares numbers long is =
    sixteen_small squares long (subst (Each1 (λ n. n ≤ 1073676289)) (sym is) (low_squares_small numbers))

pub sums_added-sums-requires : goal.sums_added-sums-requires
sums_added-sums-requires c =
    let added = sum_of_low c.squares_of_low.result _ (omega arith) c.squares_of_low.ensures in
    omega (arith, c.loop-sixteen.invariant.small, c.sums_of_four.ensures)

pub loop-sixteen-preserved : goal.loop-sixteen-preserved
loop-sixteen-preserved c =
    let added = sum_of_low c.squares_of_low.result _ (omega arith) c.squares_of_low.ensures in
    let x = c.args.x.now in
    let q = c.args.q.now in
    let i = c.loop-sixteen.sixteen in
    let numbers = c.sixteen_differences-numbers.result in
    record {
      whole = λ below.
          let both = both_below c.loop-sixteen.bits numbers (omega arith)
          (subst Below c.bits_of_both-bits.ensures below) in
          let near : IsNear (chunk (16 * i) 16 x) (chunk (16 * i) 16 q)
          = subst Below c.sixteen_differences-numbers.ensures both.1 in
          let part : sum_l c.squares_of_low.result
          ≡ squared_distance (chunk (16 * i) 16 x) (chunk (16 * i) 16 q)
          = ap sum_l (c.squares_of_low.ensures ∙ ap (map square_of_low) c.sixteen_differences-numbers.ensures)
          ∙ near_squares_sum (chunk (16 * i) 16 x) (chunk (16 * i) 16 q) near in
          let step = distance_from_sixteen x q i (omega arith) (omega arith) in
          let before = c.loop-sixteen.invariant.whole both.0 in
          omega (arith, c.sums_of_four.ensures, c.sums_added-sums.ensures);
      small = omega (
        arith,
        c.loop-sixteen.invariant.small,
        c.sums_of_four.ensures,
        c.sums_added-sums.ensures,
      );
    }

pub returns-then-bits_of_all-lt-NEAR : goal.returns-then-bits_of_all-lt-NEAR
returns-then-bits_of_all-lt-NEAR c =
    let x = c.args.x.now in
    let q = c.args.q.now in
    let i = c.loop-sixteen.sixteen in
    let bits = c.loop-sixteen.bits in
    let test : c.bits_of_all.result < 32768 = omega arith in
    let below : fold_l bit_or 0 bits < 32768 = subst (λ (n : ℕ). n < 32768) c.bits_of_all.ensures test in
    let whole = c.loop-sixteen.invariant.whole (all_below 0 bits below).1 in
    let end : squared_distance (drop (16 * i) x) (drop (16 * i) q) ≡ 0
    = ap (λ l. squared_distance l (drop (16 * i) q)) (drop_all (16 * i) x (omega arith)) in
    omega (arith, c.sum_of.ensures)
