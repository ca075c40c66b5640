-- Lanes of halves: their squares do not wrap (`half_squares_are`, `half_squares_small`), and four times what they add up to is at
-- most the distance (`half_squares_sum`).
use Rattle.std.proofs.Common.{◌≡◌, ℕ, ◌*◌, ◌/◌, ◌%◌, ◌<◌, ◌≤◌, refl, ap, ◌∙◌, arith, List, [], ◌∷◌, map, length, replicate}
use Rattle.std.specs.Prelude.{ℤ}
use Rattle.std.proofs.lemmas.Simd.{zip2_splat, zip2-map}
use Rattle.std.proofs.Math.Nat.{mul-le-mul, mul_assoc, mul_comm}
use lib.Lanes.{zip2, sum_l, Each1}
use Rattle.series_core.specs.Distance.{squared_difference, squared_distance}
use Rattle.simd_distance.specs.Lanes.{difference, square, square_of_half}

-- the square of the half of a number of 16 bits takes 30 bits
half_square_small : (n : ℕ) → n < 65536 → square_of_half n ≤ 1073676289
half_square_small n small =
    let at_most : n / 2 ≤ 32767 = omega arith in
    mul-le-mul at_most at_most

-- so do those of all numbers
pub half_squares_small : (ns : List ℕ) → Each1 (λ n. n < 65536) ns
    → Each1 (λ n. n ≤ 1073676289) (map square_of_half ns)
half_squares_small [] small = tt
half_squares_small (n ∷ ns) small = (half_square_small n small.0, half_squares_small ns small.1)

-- what a lane computes of a half
half_square_is : (n : ℕ) → n < 65536 → ((n / 2) * (n / 2)) % 4294967296 ≡ square_of_half n
half_square_is n small =
    let fits = half_square_small n small in
    omega arith

-- so do the lanes
half_lanes_are : (half : ℕ → ℕ → ℕ) → ((n : ℕ) → half n 1 ≡ n / 2) → (ns : List ℕ) → Each1 (λ n. n < 65536) ns
    → map (λ n. (half n 1 * half n 1) % 4294967296) ns ≡ map square_of_half ns
half_lanes_are half is [] small = refl
half_lanes_are half is (n ∷ ns) small =
    let first : (half n 1 * half n 1) % 4294967296 ≡ square_of_half n
    = ap (λ m. (m * m) % 4294967296) (is n) ∙ half_square_is n small.0 in
    let rest = half_lanes_are half is ns small.1 in
    λ i. first i ∷ rest i

-- the squares of shifted lanes of a vector of k lanes
pub half_squares_are : (half : ℕ → ℕ → ℕ) → ((n : ℕ) → half n 1 ≡ n / 2) → (ns : List ℕ) (k : ℕ) → length ns ≡ k
    → Each1 (λ n. n < 65536) ns
    → zip2 (λ a b. (a * b) % 4294967296) (zip2 half ns (replicate k 1)) (zip2 half ns (replicate k 1))
    ≡ map square_of_half ns
half_squares_are half is ns k long small =
    let halves : zip2 half ns (replicate k 1) ≡ map (λ n. half n 1) ns = zip2_splat half ns k 1 long in
    ap (λ l. zip2 (λ a b. (a * b) % 4294967296) l l) halves
    ∙ zip2-map (λ a b. (a * b) % 4294967296) (λ n. half n 1) (λ n. half n 1) ns
    ∙ half_lanes_are half is ns small

-- four times a square is that of the double
four_squares : (h : ℕ) → 2 * h * (2 * h) ≡ 2 * (2 * (h * h))
four_squares h = mul_assoc 2 h (2 * h) ∙ ap (λ m. 2 * m) (mul_comm h (2 * h) ∙ mul_assoc 2 h h)

-- four times the square of the half is at most the square
half_square_low : (n : ℕ) → 4 * square_of_half n ≤ square n
half_square_low n =
    let twice : 2 * (n / 2) ≤ n = omega arith in
    let below : 2 * (n / 2) * (2 * (n / 2)) ≤ n * n = mul-le-mul twice twice in
    omega (arith, four_squares (n / 2))

-- four times the squares of the halves of the differences add up to at most the distance
pub half_squares_sum : (xs ys : List ℤ)
    → 4 * sum_l (map square_of_half (zip2 difference xs ys)) ≤ squared_distance xs ys
half_squares_sum [] ys = omega arith
half_squares_sum (x ∷ xs) [] = omega arith
half_squares_sum (x ∷ xs) (y ∷ ys) =
    let first : 4 * square_of_half (difference x y) ≤ squared_difference x y = half_square_low (difference x y) in
    let rest = half_squares_sum xs ys in
    omega arith
