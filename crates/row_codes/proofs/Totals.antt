-- The sums of values (`total_more`, `squares_more`), and products and sums that are handed on (`product_passed`, `sum_passed`).
use Rattle.std.proofs.Common.{◌≡◌, ℕ, ◌+◌, ◌*◌, ◌≤◌, arith, ap, ◌∙◌, subst, sym, to_z, of_z, ℤ, pos, ◌+ℤ◌, ◌-ℤ◌, ◌*ℤ◌, List, [], ◌∷◌, ◌++◌, length, take, get_or, ◌<◌}
use Rattle.std.specs.Prelude.{FitsSigned, unsigned_abs}
use Rattle.std.proofs.lemmas.Int.{ints, fits_signed_mul, to_z-of_z, unsigned_abs-mul}
use Rattle.std.proofs.lemmas.List.{take_more}
use mir.Syntax.{w32, w64}
use Rattle.row_codes.specs.Roots.{square}
use Rattle.row_codes.specs.Codes.{value_squares}
use Rattle.row_codes.specs.Kept.{value_total}

-- the sum of one value more
pub total_more : (xs : List ℤ) (i : ℕ) (d : ℤ) → i < length xs
    → value_total (take (i + 1) xs) ≡ value_total (take i xs) +ℤ get_or xs i d
total_more xs i d inside = ap value_total (take_more xs i d inside) ∙ behind (take i xs) (get_or xs i d)
  where
    behind : (xs : List ℤ) (y : ℤ) → value_total (xs ++ y ∷ []) ≡ value_total xs +ℤ y
    behind [] y = omega (arith, ints)
    behind (x ∷ xs) y = omega (arith, ints, behind xs y)

-- and that of the squares
pub squares_more : (xs : List ℤ) (i : ℕ) (d : ℤ) → i < length xs
    → value_squares (take (i + 1) xs) ≡ value_squares (take i xs) + square (unsigned_abs (get_or xs i d))
squares_more xs i d inside = ap value_squares (take_more xs i d inside) ∙ behind (take i xs) (get_or xs i d)
  where
    behind : (xs : List ℤ) (y : ℤ) → value_squares (xs ++ y ∷ []) ≡ value_squares xs + square (unsigned_abs y)
    behind [] y = omega arith
    behind (x ∷ xs) y = omega (arith, behind xs y)

-- a product that is handed on takes 49 bits
pub product_passed : (n : ℕ) (a b x : ℤ) → n ≤ 131072 → FitsSigned w32 x → a ≡ pos n → b ≡ to_z w32 (of_z w32 x)
    → (to_z w64 (of_z w64 (to_z w64 (of_z w64 a) *ℤ to_z w64 (of_z w64 b))) ≡ pos n *ℤ x)
    × (unsigned_abs (pos n *ℤ x) ≡ n * unsigned_abs x)
product_passed n a b x few fits is_a is_b =
    let own_b : b ≡ x = is_b ∙ to_z-of_z w32 x fits in
    let wide_a : FitsSigned w64 a = subst (FitsSigned w64) (sym is_a) (omega (arith, ints, few)) in
    let wide_b : FitsSigned w64 b = subst (FitsSigned w64) (sym own_b) (omega (arith, ints, fits)) in
    let low_x : unsigned_abs x ≤ 2147483648 = omega (arith, ints, fits) in
    let passed_a = to_z-of_z w64 a wide_a ∙ is_a in
    let passed_b = to_z-of_z w64 b wide_b ∙ own_b in
    let whole = fits_signed_mul w64 (pos n) x 131072 2147483648 few low_x (omega arith) in
    ((λ i. to_z w64 (of_z w64 (passed_a i *ℤ passed_b i))) ∙ to_z-of_z w64 (pos n *ℤ x) whole, unsigned_abs-mul (pos n) x)

-- and so is a sum of short ones
pub sum_passed : (a b t : ℤ) → unsigned_abs a ≤ 515396075520 → unsigned_abs b ≤ 566935683072 → unsigned_abs t ≤ 8388608
    → (to_z w64 (of_z w64 (to_z w64 (of_z w64 a) +ℤ to_z w64 (of_z w64 (to_z w64 (of_z w64 b)
    -ℤ to_z w64 (of_z w64 (pos 32768 *ℤ to_z w64 (of_z w64 t)))))))
    ≡ a +ℤ (b -ℤ (pos 32768 *ℤ t)))
    × (unsigned_abs (a +ℤ (b -ℤ (pos 32768 *ℤ t))) ≤ 1400000000000)
sum_passed a b t first second third = (omega (arith, ints, first, second, third), omega (arith, ints, first, second, third))
