-- Numbers that are cut are at most 16383 (`cut_small`): their squares do not wrap in 32 bits (`squares_are`), and they add
-- up to at most as many greatest squares (`squares_small`).
use Rattle.std.proofs.Common.{◌≡◌, ℕ, ◌*◌, ◌%◌, ◌≤◌, refl, arith, List, [], ◌∷◌, map, length}
use Rattle.std.specs.Prelude.{min}
use Rattle.std.proofs.Math.Nat.{suc-mul, mul-le-mul}
use Rattle.std.specs.Simd.Lanes.{zip2, sum_l, Each1}
use Rattle.mean_bound.specs.MeanBound.{square}

-- cut numbers are small
pub cut_small : (ns : List ℕ) → Each1 (λ n. n ≤ 16383) (map (λ n. min n 16383) ns)
cut_small [] = tt
cut_small (n ∷ ns) = (omega arith, cut_small ns)

-- squares of small numbers do not wrap
pub squares_are : (ns : List ℕ) → Each1 (λ n. n ≤ 16383) ns
    → zip2 (λ a b. (a * b) % 4294967296) (map (λ n. n) ns) (map (λ n. n) ns) ≡ map square ns
squares_are [] small = refl
squares_are (n ∷ ns) small =
    let fits : n * n ≤ 268402689 = mul-le-mul small.0 small.0 in
    let first : (n * n) % 4294967296 ≡ n * n = omega (arith, fits) in
    let rest = squares_are ns small.1 in
    λ i. first i ∷ rest i

-- the sum of the squares of small numbers is small
pub squares_small : (most : ℕ) (ns : List ℕ) → Each1 (λ n. n ≤ most) ns
    → sum_l (map square ns) ≤ length ns * (most * most)
squares_small most [] small = omega arith
squares_small most (n ∷ ns) small =
    let fits : n * n ≤ most * most = mul-le-mul small.0 small.0 in
    let rest = squares_small most ns small.1 in
    omega (arith, suc-mul (length ns) (most * most))
