-- The triangle inequality in squares, by that of Cauchy: a side is as long at least as another is longer than the third (`side_left`).
use Rattle.std.proofs.Common.{◌≡◌, ℕ, zero, suc, ◌+◌, ◌-◌, ◌*◌, ◌<◌, ◌≤◌, arith, refl, subst, ◌⊎◌, inl, inr, ℤ, ◌-ℤ◌, List, [], ◌∷◌, length}
use Rattle.std.specs.Prelude.{unsigned_abs}
use Rattle.std.proofs.lemmas.Int.{ints}
use Rattle.std.proofs.lemmas.Bool.{cases_lt}
use Rattle.std.proofs.lemmas.Nat.{mul-le}
use Rattle.series_core.specs.Distance.{squared_distance}
use Rattle.lower_bound.proofs.Distances.{twice_product}
use Rattle.row_codes.specs.Roots.{root, square}
use Rattle.row_codes.proofs.RootLemmas.{root_below, root_low}

-- how far two numbers are apart, without the sign
abbrev gap : ℤ → ℤ → ℕ
gap a b = unsigned_abs (a -ℤ b)

-- the sum of the products of the gaps from us to vs and from vs to bs
abbrev pub crossed : List ℤ → List ℤ → List ℤ → ℕ
crossed [] vs bs = 0
crossed (a ∷ us) [] bs = 0
crossed (a ∷ us) (v ∷ vs) [] = 0
crossed (a ∷ us) (v ∷ vs) (b ∷ bs) = gap a v * gap v b + crossed us vs bs

-- twice a product with all crossed products is at most the squares of one side times those of the other
mixed : (x y : ℕ) (us vs bs : List ℤ)
    → 2 * (x * y * crossed us vs bs) ≤ x * x * squared_distance vs bs + y * y * squared_distance us vs
mixed x y [] vs bs = omega arith
mixed x y (a ∷ us) [] bs = omega arith
mixed x y (a ∷ us) (v ∷ vs) [] = omega arith
mixed x y (a ∷ us) (v ∷ vs) (b ∷ bs) =
    by_parts x y (gap a v) (gap v b) _ _ _ (twice_product (x * gap v b) (y * gap a v)) (mixed x y us vs bs)
  where
    by_parts : (x y g h p m n : ℕ) → 2 * ((x * h) * (y * g)) ≤ (x * h) * (x * h) + (y * g) * (y * g)
        → 2 * (x * y * p) ≤ x * x * m + y * y * n
        → 2 * (x * y * (g * h + p)) ≤ x * x * (h * h + m) + y * y * (g * g + n)
    by_parts x y g h p m n here rest = omega (arith, here, rest)

-- the square of the crossed products is at most the product of the distances
cauchy : (us vs bs : List ℤ)
    → crossed us vs bs * crossed us vs bs ≤ squared_distance us vs * squared_distance vs bs
cauchy [] vs bs = omega arith
cauchy (a ∷ us) [] bs = omega arith
cauchy (a ∷ us) (v ∷ vs) [] = omega arith
cauchy (a ∷ us) (v ∷ vs) (b ∷ bs) =
    by_parts (gap a v) (gap v b) _ _ _ (mixed (gap a v) (gap v b) us vs bs) (cauchy us vs bs)
  where
    by_parts : (g h p m n : ℕ) → 2 * (g * h * p) ≤ g * g * m + h * h * n → p * p ≤ n * m
        → (g * h + p) * (g * h + p) ≤ (g * g + n) * (h * h + m)
    by_parts g h p m n here rest = omega (arith, here, rest)

-- a distance by way of a third list
by_way : (us vs bs : List ℤ) → length us ≡ length vs
    → squared_distance us bs ≤ squared_distance us vs + squared_distance vs bs + 2 * crossed us vs bs
by_way [] vs bs same = omega arith
by_way (a ∷ us) [] bs same = absurd (omega arith)
by_way (a ∷ us) (v ∷ vs) [] same = omega arith
by_way (a ∷ us) (v ∷ vs) (b ∷ bs) same =
    let low : gap a b ≤ gap a v + gap v b = omega (arith, ints) in
    by_parts (gap a b) (gap a v) (gap v b) _ _ _ _ (mul-le _ _ _ _ low low) (by_way us vs bs (omega arith))
  where
    by_parts : (f g h d m n p : ℕ) → f * f ≤ (g + h) * (g + h) → d ≤ m + n + 2 * p
        → f * f + d ≤ (g * g + m) + (h * h + n) + 2 * (g * h + p)
    by_parts f g h d m n p here rest = omega (arith, here, rest)

-- the triangle inequality, of twice the lengths: where one side is at most e and the next less than r, the third is less than r + e
triangle : (e r : ℕ) (us vs bs : List ℤ) → length us ≡ length vs → 4 * squared_distance us vs ≤ square e
    → 4 * squared_distance vs bs < square r → 4 * squared_distance us bs < square (r + e)
triangle e r us vs bs same one two =
    let both = mul-le (4 * squared_distance us vs) (4 * squared_distance vs bs) (square e) (square r) one (omega (arith, two)) in
    let small = root_below (4 * crossed us vs bs) (e * r) (omega (arith, cauchy us vs bs, both)) in
    omega (arith, by_way us vs bs same, small, one, two)

-- so twice the second side is as long at least as twice the third is longer than twice the first, rounded
pub side_left : (e : ℕ) (us vs bs : List ℤ) → length us ≡ length vs → 4 * squared_distance us vs ≤ square e
    → square (root (4 * squared_distance us bs) - e) ≤ 4 * squared_distance vs bs
side_left e us vs bs same one = of_excess (root (4 * squared_distance us bs) - e) refl
  where
    of_excess : (g : ℕ) → root (4 * squared_distance us bs) - e ≡ g → square g ≤ 4 * squared_distance vs bs
    of_excess zero is = omega arith
    of_excess (suc g) is = by_cases (cases_lt (4 * squared_distance vs bs) (square (suc g)))
      where
        by_cases : (4 * squared_distance vs bs < square (suc g)) ⊎ (square (suc g) ≤ 4 * squared_distance vs bs)
            → square (suc g) ≤ 4 * squared_distance vs bs
        by_cases (inr least) = least
        by_cases (inl less) =
            let whole : suc g + e ≡ root (4 * squared_distance us bs) = omega (arith, is) in
            let near = triangle e (suc g) us vs bs same one less in
            let low = root_low (4 * squared_distance us bs) in
            absurd (omega (arith, subst (λ n. 4 * squared_distance us bs < square n) whole near, low))

-- lists lie as far from each other whichever comes first
pub distance_turned : (xs qs : List ℤ) → squared_distance xs qs ≡ squared_distance qs xs
distance_turned [] [] = refl
distance_turned [] (q ∷ qs) = refl
distance_turned (x ∷ xs) [] = refl
distance_turned (x ∷ xs) (q ∷ qs) =
    let here : gap x q ≡ gap q x = omega (arith, ints) in
    let rest = distance_turned xs qs in
    λ i. here i * here i + rest i
