-- Lanes of squares: they do not wrap (`squares_are`, `low_squares_are`), those of differences add up to the distance
-- (`squares_sum`, `near_squares_sum`), and sums of four lanes each add up to the sum of all (`sums_of_sixteen`).
use Rattle.std.proofs.Common.{◌≡◌, ℕ, ◌+◌, ◌*◌, ◌%◌, ◌<◌, ◌≤◌, refl, ap, ◌∙◌, arith, List, [], ◌∷◌, map, length, replicate, ◌++◌, get_or, sym}
use Rattle.std.specs.Prelude.{ℤ, bit_and}
use Rattle.std.proofs.lemmas.Nat.{and_mask}
use Rattle.std.proofs.lemmas.List.FromFn.{fill_by_all}
use Rattle.std.proofs.lemmas.Simd.{sum_bound, zip2_splat, zip2-map}
use Rattle.std.proofs.Math.ListN.{get_or-append}
use Rattle.std.proofs.Math.Nat.{mul-le-mul}
use lib.Lanes.{zip2, sum_l, Each1}
use Rattle.series_core.specs.Distance.{squared_difference, squared_distance}
use Rattle.simd_distance.specs.Lanes.{difference, square, square_of_low, IsNear}

-- squares of numbers below 65536 do not wrap in 32 bits
pub squares_are : (ns : List ℕ) → Each1 (λ n. n < 65536) ns
    → map (λ n. n) (zip2 (λ a b. (a * b) % 4294967296) ns ns) ≡ map square ns
squares_are [] small = refl
squares_are (n ∷ ns) small =
    let at_most : n ≤ 65535 = omega (arith, small.0) in
    let fits : n * n ≤ 4294836225 = mul-le-mul at_most at_most in
    let first : (n * n) % 4294967296 ≡ n * n = omega arith in
    let rest = squares_are ns small.1 in
    λ i. first i ∷ rest i

-- the square of the low 15 bits of a number takes 30 bits
low_square_small : (n : ℕ) → square_of_low n ≤ 1073676289
low_square_small n =
    let at_most : n % 32768 ≤ 32767 = omega arith in
    mul-le-mul at_most at_most

-- so do those of all numbers
pub low_squares_small : (ns : List ℕ) → Each1 (λ n. n ≤ 1073676289) (map square_of_low ns)
low_squares_small [] = tt
low_squares_small (n ∷ ns) = (low_square_small n, low_squares_small ns)

-- the sum of sixteen squares of 15 bits
pub sixteen_small : (ns : List ℕ) → length ns ≡ 16 → Each1 (λ n. n ≤ 1073676289) ns → sum_l ns ≤ 17178820624
sixteen_small ns long small =
    let bound = sum_bound 1073676289 ns small in
    omega arith

-- what a lane computes of the low 15 bits
low_square_is : (n : ℕ) → (bit_and n 32767 * bit_and n 32767) % 4294967296 ≡ square_of_low n
low_square_is n =
    let small = low_square_small n in
    let whole : square_of_low n % 4294967296 ≡ square_of_low n = omega arith in
    ap (λ m. (m * m) % 4294967296) (and_mask n 15) ∙ whole

-- so do the lanes
low_lanes_are : (ns : List ℕ)
    → map (λ n. (bit_and n 32767 * bit_and n 32767) % 4294967296) ns ≡ map square_of_low ns
low_lanes_are [] = refl
low_lanes_are (n ∷ ns) =
    let first = low_square_is n in
    let rest = low_lanes_are ns in
    λ i. first i ∷ rest i

-- the squares of masked lanes of a vector of k lanes
pub low_squares_are : (ns : List ℕ) (k : ℕ) → length ns ≡ k
    → zip2 (λ a b. (a * b) % 4294967296) (zip2 bit_and ns (replicate k 32767))
    (zip2 bit_and ns (replicate k 32767))
    ≡ map square_of_low ns
low_squares_are ns k long =
    let low : zip2 bit_and ns (replicate k 32767) ≡ map (λ n. bit_and n 32767) ns
    = zip2_splat bit_and ns k 32767 long in
    ap (λ l. zip2 (λ a b. (a * b) % 4294967296) l l) low
    ∙ zip2-map (λ a b. (a * b) % 4294967296) (λ n. bit_and n 32767) (λ n. bit_and n 32767) ns
    ∙ low_lanes_are ns

-- of numbers below 32768 the low 15 bits are all
low_are_all : (ns : List ℕ) → Each1 (λ n. n < 32768) ns → map square_of_low ns ≡ map square ns
low_are_all [] small = refl
low_are_all (n ∷ ns) small =
    let below : n < 32768 = small.0 in
    let low : n % 32768 ≡ n = omega arith in
    let first = ap square low in
    let rest = low_are_all ns small.1 in
    λ i. first i ∷ rest i

-- the squares of the differences add up to the distance
pub squares_sum : (xs ys : List ℤ)
    → sum_l (map square (zip2 difference xs ys)) ≡ squared_distance xs ys
squares_sum [] ys = refl
squares_sum (x ∷ xs) [] = refl
squares_sum (x ∷ xs) (y ∷ ys) = ap (λ n. squared_difference x y + n) (squares_sum xs ys)

-- so do the squares of the low bits of differences that are near
pub near_squares_sum : (xs ys : List ℤ) → IsNear xs ys
    → sum_l (map square_of_low (zip2 difference xs ys)) ≡ squared_distance xs ys
near_squares_sum xs ys near =
    ap sum_l (low_are_all (zip2 difference xs ys) near) ∙ squares_sum xs ys

-- the sums of four lanes each, as they are picked, add up to the sum of all
pub sums_of_sixteen : (xs : List ℕ) → length xs ≡ 16
    → let at : ℕ → ℕ = λ i. get_or (xs ++ xs) i 0 in
    at 0 + at 1 + (at 8 + at 9) + (at 2 + at 3 + (at 10 + at 11)
    + (at 4 + at 5 + (at 12 + at 13) + (at 6 + at 7 + (at 14 + at 15) + 0))) ≡ sum_l xs
sums_of_sixteen xs long =
    let at : ℕ → ℕ = λ i. get_or (xs ++ xs) i 0 in
    let all = fill_by_all at xs 16 0 long (λ i inside. sym (get_or-append xs xs 0 i (omega (arith, long, inside)))) in
    omega (arith, ap sum_l all)
