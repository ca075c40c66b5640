-- The distance of a query from what codes stand for is what is computed of the sums (`picture_distance`).
use Rattle.std.proofs.Common.{◌≡◌, ℕ, suc, ◌+◌, ◌*◌, ◌/◌, arith, ap, subst, ◌∙◌, refl, ℤ, pos, negsuc, ◌+ℤ◌, ◌-ℤ◌, ◌*ℤ◌, List, [], ◌∷◌, length}
use Rattle.std.specs.Prelude.{unsigned_abs}
use Rattle.std.proofs.lemmas.Int.{ints}
use Rattle.std.proofs.Math.IntN.{pos-*ℤ-pos, pos-*ℤ-negsuc, *ℤ-zero}
use Rattle.series_core.specs.Distance.{squared_difference, squared_distance}
use Rattle.row_codes.specs.Codes.{picture_of, pictured, value_squares}
use Rattle.row_codes.specs.Kept.{multiplied_out, value_total}
use Rattle.row_codes.specs.Lanes.{code_dot}

-- a number that is the difference of two, times another
pub scaled : (n : ℕ) (z : ℤ) (a b : ℕ) → z ≡ pos a -ℤ pos b → pos n *ℤ z ≡ pos (n * a) -ℤ pos (n * b)
scaled n (pos m) a b is =
    let whole : a ≡ m + b = omega (arith, ints, is) in
    let times : n * a ≡ n * (m + b) = ap (λ k. n * k) whole in
    omega (arith, ints, pos-*ℤ-pos n m, times)
scaled n (negsuc m) a b is =
    let whole : b ≡ suc m + a = omega (arith, ints, is) in
    let times : n * b ≡ n * (suc m + a) = ap (λ k. n * k) whole in
    omega (arith, ints, pos-*ℤ-negsuc n m, times)

-- the square of a number that is the difference of two
square_gap : (z : ℤ) (a b : ℕ) → z ≡ pos a -ℤ pos b
    → unsigned_abs z * unsigned_abs z + 2 * (a * b) ≡ a * a + b * b
square_gap (pos m) a b is =
    let whole : m + b ≡ a = omega (arith, ints, is) in
    subst (λ k. m * m + 2 * (k * b) ≡ k * k + b * b) whole (expanded m b)
  where
    expanded : (m b : ℕ) → m * m + 2 * ((m + b) * b) ≡ (m + b) * (m + b) + b * b
    expanded m b = omega arith
square_gap (negsuc m) a b is =
    let whole : suc m + a ≡ b = omega (arith, ints, is) in
    subst (λ k. suc m * suc m + 2 * (a * k) ≡ a * a + k * k) whole (expanded (suc m) a)
  where
    expanded : (m a : ℕ) → m * m + 2 * (a * (m + a)) ≡ a * a + (m + a) * (m + a)
    expanded m a = omega arith

-- a number is the difference of two
abbrev high : ℤ → ℕ
high (pos m) = m
high (negsuc m) = 0

abbrev low_of : ℤ → ℕ
low_of (pos m) = 0
low_of (negsuc m) = suc m

parts : (z : ℤ) → z ≡ pos (high z) -ℤ pos (low_of z)
parts (pos m) = omega (arith, ints)
parts (negsuc m) = omega (arith, ints)

-- a number times a sum
times_sum : (n : ℕ) (x y : ℤ) → pos n *ℤ (x +ℤ y) ≡ (pos n *ℤ x) +ℤ (pos n *ℤ y)
times_sum n x y =
    let one = scaled n x (high x) (low_of x) (parts x) in
    let two = scaled n y (high y) (low_of y) (parts y) in
    let sum : x +ℤ y ≡ pos (high x + high y) -ℤ pos (low_of x + low_of y) = omega (arith, ints, parts x, parts y) in
    let all = scaled n (x +ℤ y) (high x + high y) (low_of x + low_of y) sum in
    let ups : n * (high x + high y) ≡ n * high x + n * high y = omega arith in
    let downs : n * (low_of x + low_of y) ≡ n * low_of x + n * low_of y = omega arith in
    omega (arith, ints, one, two, all, ups, downs)

-- what a code and a value add to the products
abbrev product : ℕ → ℕ → ℕ → ℤ → ℤ
product low s c q = (pos s *ℤ (pos c *ℤ q)) +ℤ ((pos (low + s / 2) *ℤ q) -ℤ (pos 32768 *ℤ q))

-- one value
one_value : (low s c : ℕ) (q : ℤ)
    → pos (squared_difference (picture_of low s c) q)
    ≡ (pos (unsigned_abs (picture_of low s c) * unsigned_abs (picture_of low s c)) -ℤ (pos 2 *ℤ product low s c q))
    +ℤ pos (unsigned_abs q * unsigned_abs q)
one_value low s c q =
    let u = high q in
    let d = low_of q in
    let h = low + s / 2 in
    let p = low + s * c + s / 2 in
    let split : p ≡ h + s * c = omega arith in
    let code = scaled c q u d (parts q) in
    let times = scaled s (pos c *ℤ q) (c * u) (c * d) code in
    let center = scaled h q u d (parts q) in
    let gap : picture_of low s c -ℤ q ≡ pos (p + d) -ℤ pos (32768 + u) = omega (arith, ints, parts q) in
    let far = square_gap (picture_of low s c -ℤ q) (p + d) (32768 + u) gap in
    let shown = square_gap (picture_of low s c) p 32768 refl in
    let own = square_gap q u d (parts q) in
    let whole = by_parts p u d (squared_difference (picture_of low s c) q)
    (unsigned_abs (picture_of low s c) * unsigned_abs (picture_of low s c)) (unsigned_abs q * unsigned_abs q) far shown own in
    let ups : p * u ≡ h * u + s * (c * u) = ap (λ n. n * u) split ∙ spread h s c u in
    let downs : p * d ≡ h * d + s * (c * d) = ap (λ n. n * d) split ∙ spread h s c d in
    omega (arith, ints, times, center, whole, ups, downs, parts q)
  where
    spread : (h s c u : ℕ) → (h + s * c) * u ≡ h * u + s * (c * u)
    spread h s c u = omega arith

    by_parts : (p u d z t q : ℕ)
        → z + 2 * ((p + d) * (32768 + u)) ≡ (p + d) * (p + d) + (32768 + u) * (32768 + u)
        → t + 2 * (p * 32768) ≡ p * p + 32768 * 32768
        → q + 2 * (u * d) ≡ u * u + d * d
        → z + 2 * (p * u) + 65536 * d ≡ t + q + 2 * (p * d) + 65536 * u
    by_parts p u d z t q far shown own = omega (arith, far, shown, own)

-- the whole distance
pub picture_distance : (low s : ℕ) (cs : List ℕ) (qs : List ℤ) → length cs ≡ length qs
    → pos (squared_distance (pictured low s cs) qs)
    ≡ multiplied_out low s (value_squares (pictured low s cs)) (code_dot cs qs)
    (record { total = value_total qs; squares = value_squares qs })
picture_distance low s [] [] same =
    let none = *ℤ-zero (pos s) in
    let center = *ℤ-zero (pos (low + s / 2)) in
    omega (arith, ints, none, center)
picture_distance low s [] (q ∷ qs) same = absurd (omega arith)
picture_distance low s (c ∷ cs) [] same = absurd (omega arith)
picture_distance low s (c ∷ cs) (q ∷ qs) same =
    let here = one_value low s c q in
    let rest = picture_distance low s cs qs (omega arith) in
    let dots = times_sum s (pos c *ℤ q) (code_dot cs qs) in
    let totals = times_sum (low + s / 2) q (value_total qs) in
    omega (arith, ints, here, rest, dots, totals)
