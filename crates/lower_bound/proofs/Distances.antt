-- The square of the difference of two sums is at most their length times the distance
-- (`difference_of_sums`), by the inequality of Cauchy.
use Rattle.std.proofs.Common.{◌≡◌, ℕ, suc, ◌+◌, ◌-◌, ◌*◌, ◌≤◌, arith, ap, subst, ⊎_elim, ℤ, ◌+ℤ◌, ◌-ℤ◌, List, [], ◌∷◌, ◌++◌, length}
use Rattle.std.specs.Prelude.{unsigned_abs}
use Rattle.std.proofs.lemmas.Int.{ints}
use Rattle.std.proofs.lemmas.Bool.{cases_lt}
use Rattle.std.proofs.lemmas.Nat.{mul-le}
use Rattle.std.proofs.Math.Nat.{suc-mul}
use Rattle.series_core.specs.Distance.{squared_distance}
use Rattle.segment_sums.specs.Sum.{signed_sum}

-- the sum of the differences of two lists, place by place, without their signs
abbrev pub apart : List ℤ → List ℤ → ℕ
apart [] ys = 0
apart (x ∷ xs) [] = 0
apart (x ∷ xs) (y ∷ ys) = unsigned_abs (x -ℤ y) + apart xs ys

-- twice a product is at most the two squares
pub twice_product : (a b : ℕ) → 2 * (a * b) ≤ a * a + b * b
twice_product a b =
    ⊎_elim (λ less. more a b (omega arith)) (λ least. omega (arith, more b a least)) (cases_lt a b)
  where
    -- the square of the excess is what is left over
    by_excess : (a k : ℕ) → 2 * (a * (a + k)) ≤ a * a + (a + k) * (a + k)
    by_excess a k = omega arith

    -- the claim where the first number is not the greater
    more : (a b : ℕ) → a ≤ b → 2 * (a * b) ≤ a * a + b * b
    more a b less =
        let is : a + (b - a) ≡ b = omega arith in
        subst (λ n. 2 * (a * n) ≤ a * a + n * n) is (by_excess a (b - a))

-- twice the products of one number with all differences are at most their squares and as many of
-- its square
twice_products : (a : ℕ) (xs ys : List ℤ) → length xs ≡ length ys
    → 2 * (a * apart xs ys) ≤ squared_distance xs ys + length xs * (a * a)
twice_products a [] ys same = omega arith
twice_products a (x ∷ xs) [] same = absurd (omega arith)
twice_products a (x ∷ xs) (y ∷ ys) same =
    let here : 2 * (a * unsigned_abs (x -ℤ y))
    ≤ a * a + unsigned_abs (x -ℤ y) * unsigned_abs (x -ℤ y)
    = twice_product a (unsigned_abs (x -ℤ y)) in
    let rest = twice_products a xs ys (omega arith) in
    by_parts a (unsigned_abs (x -ℤ y)) (apart xs ys) (squared_distance xs ys) (length xs) here rest
  where
    -- the claim for one difference and for the rest makes that for all
    by_parts : (a u v e n : ℕ) → 2 * (a * u) ≤ a * a + u * u → 2 * (a * v) ≤ e + n * (a * a)
        → 2 * (a * (u + v)) ≤ (u * u + e) + suc n * (a * a)
    by_parts a u v e n here rest = omega (arith, suc-mul n (a * a))

-- the inequality of Cauchy for the differences of two lists
pub apart_squared : (xs ys : List ℤ) → length xs ≡ length ys
    → apart xs ys * apart xs ys ≤ length xs * squared_distance xs ys
apart_squared [] ys same = omega arith
apart_squared (x ∷ xs) [] same = absurd (omega arith)
apart_squared (x ∷ xs) (y ∷ ys) same =
    by_parts (unsigned_abs (x -ℤ y)) (apart xs ys) (squared_distance xs ys) (length xs)
    (twice_products (unsigned_abs (x -ℤ y)) xs ys (omega arith)) (apart_squared xs ys (omega arith))
  where
    -- the square of a sum of a difference and the rest
    by_parts : (u v e n : ℕ) → 2 * (u * v) ≤ e + n * (u * u) → v * v ≤ n * e
        → (u + v) * (u + v) ≤ suc n * (u * u + e)
    by_parts u v e n mixed rest = omega (arith, suc-mul n (u * u + e))

-- the size of a sum is at most the sizes of its parts
abs_sum : (a b : ℤ) → unsigned_abs (a +ℤ b) ≤ unsigned_abs a + unsigned_abs b
abs_sum a b = omega (arith, ints)

-- the difference of two sums is at most the sum of the differences
pub sums_apart : (xs ys : List ℤ) → length xs ≡ length ys
    → unsigned_abs (signed_sum xs -ℤ signed_sum ys) ≤ apart xs ys
sums_apart [] [] same = omega arith
sums_apart [] (y ∷ ys) same = absurd (omega arith)
sums_apart (x ∷ xs) [] same = absurd (omega arith)
sums_apart (x ∷ xs) (y ∷ ys) same =
    let parts : (x +ℤ signed_sum xs) -ℤ (y +ℤ signed_sum ys)
    ≡ (x -ℤ y) +ℤ (signed_sum xs -ℤ signed_sum ys)
    = omega (arith, ints) in
    omega (
      arith,
      ap (λ z. unsigned_abs z) parts,
      abs_sum (x -ℤ y) (signed_sum xs -ℤ signed_sum ys),
      sums_apart xs ys (omega arith),
    )

-- a number below the difference of two sums has a square of at most their length times the distance
pub difference_of_sums : (g : ℕ) (xs ys : List ℤ) → length xs ≡ length ys
    → g ≤ unsigned_abs (signed_sum xs -ℤ signed_sum ys) → g * g ≤ length xs * squared_distance xs ys
difference_of_sums g xs ys same below =
    let small : g ≤ apart xs ys = omega (arith, below, sums_apart xs ys same) in
    omega (arith, mul-le g g (apart xs ys) (apart xs ys) small small, apart_squared xs ys same)

-- the distance of two lists in two parts of equal lengths is the sum of the distances of the parts
pub squared_distance-append : (xs ys xs' ys' : List ℤ) → length xs ≡ length ys
    → squared_distance (xs ++ xs') (ys ++ ys') ≡ squared_distance xs ys + squared_distance xs' ys'
squared_distance-append [] [] xs' ys' same = omega arith
squared_distance-append [] (y ∷ ys) xs' ys' same = absurd (omega arith)
squared_distance-append (x ∷ xs) [] xs' ys' same = absurd (omega arith)
squared_distance-append (x ∷ xs) (y ∷ ys) xs' ys' same =
    omega (arith, squared_distance-append xs ys xs' ys' (omega arith))
