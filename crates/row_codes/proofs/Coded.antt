-- Codes by a reciprocal are exact (`by_reciprocal`); what loops over the values of a block add (`least_more`, `greatest_more`,
-- `code_more`); and that each value lies between the least and the greatest (`between`).
use Rattle.std.proofs.Common.{◌≡◌, ℕ, zero, suc, ◌+◌, ◌-◌, ◌*◌, ◌/◌, ◌<◌, ◌≤◌, arith, ap, refl, sym, ◌∙◌, ◌⊎◌, inl, inr, ℤ, replicate, List, [], ◌∷◌, ◌++◌, get_or, length, map, take, set}
use Rattle.std.specs.Prelude.{max, min}
use Rattle.std.proofs.lemmas.Bool.{cases_lt}
use Rattle.std.proofs.lemmas.Nat.{mul-le}
use Rattle.std.proofs.lemmas.List.{append_assoc, length-map, length-take-le, map_more, take_more}
use Rattle.std.proofs.Math.Nat.{div-lt_iff_lt-mul, div-mul-le_self, lt-div-mul-add}
use Rattle.std.proofs.Math.Seq.{set-append_seam}
use Rattle.row_codes.specs.Codes.{greatest, least, raised}

-- a product with a number that is slightly more than 2^28 parts of s divides by s
divided : (n s m q r d : ℕ) → n ≡ q * s + r → r < s → m * s ≡ 268435456 + d → 0 < d → d ≤ s → s ≤ 4096 → n < 16 * s
    → (q * 268435456 ≤ n * m) × (n * m < q * 268435456 + 268435456)
divided n s m q r d whole rest times some small step near =
    (low (cases_lt (n * m) (q * 268435456)), high (cases_lt (n * m) (q * 268435456 + 268435456)))
  where
    product : n * (m * s) ≡ n * (268435456 + d)
    product = ap (λ k. n * k) times

    low : (n * m < q * 268435456) ⊎ (q * 268435456 ≤ n * m) → q * 268435456 ≤ n * m
    low (inr least) = least
    low (inl less) =
        let scaled : s * (n * m + 1) ≤ s * (q * 268435456) = mul-le s (n * m + 1) s (q * 268435456) (omega arith) (omega (arith, less)) in
        absurd (omega (arith, scaled, product, whole, rest))

    high : (n * m < q * 268435456 + 268435456) ⊎ (q * 268435456 + 268435456 ≤ n * m) → n * m < q * 268435456 + 268435456
    high (inl less) = less
    high (inr most) =
        let scaled : s * (q * 268435456 + 268435456) ≤ s * (n * m)
        = mul-le s (q * 268435456 + 268435456) s (n * m) (omega arith) most in
        let one : n * d ≤ n * s = mul-le n d n s (omega arith) small in
        let two : (n + 1) * s ≤ (16 * s) * s = mul-le (n + 1) s (16 * s) s (omega (arith, near)) (omega arith) in
        let three : s * s ≤ 4096 * 4096 = mul-le s s 4096 4096 step step in
        absurd (omega (arith, scaled, product, whole, rest, one, two, three, some))

-- so it gives the quotient, and takes 32 bits
pub by_reciprocal : (n s m : ℕ) → s ≤ 4096 → n < 16 * s → m ≡ 268435456 / s + 1
    → (n * m / 268435456 ≡ n / s) × (n * m < 4294967296) × (n / s < 16)
by_reciprocal n s m step near is =
    let some : 0 < s = omega (arith, near) in
    let low : n / s * s ≤ n = div-mul-le_self n s in
    let high : n < n / s * s + s = lt-div-mul-add {a = n} {b = s} some in
    let low_k : 268435456 / s * s ≤ 268435456 = div-mul-le_self 268435456 s in
    let high_k : 268435456 < 268435456 / s * s + s = lt-div-mul-add {a = 268435456} {b = s} some in
    of_parts (n / s) (n - n / s * s) (268435456 / s) low high low_k high_k is ((div-lt_iff_lt-mul {k = s} {x = n} {y = 16} some).1 near)
  where
    of_parts : (q r h : ℕ) → q * s ≤ n → n < q * s + s → h * s ≤ 268435456 → 268435456 < h * s + s → m ≡ h + 1 → q < 16
        → (n * m / 268435456 ≡ q) × (n * m < 4294967296) × (q < 16)
    of_parts q r h low high low_k high_k is few =
        let times : m * s ≡ (h + 1) * s = ap (λ k. k * s) is in
        let both = divided n s m q (n - q * s) (h * s + s - 268435456) (omega (arith, low)) (omega (arith, low, high))
        (omega (arith, times, high_k)) (omega (arith, high_k)) (omega (arith, low_k)) step near in
        (omega (arith, both.0, both.1), omega (arith, both.1, few), few)

-- the least of one value more
pub least_more : (xs : List ℤ) (i : ℕ) (d : ℤ) → i < length xs
    → least (take (i + 1) xs) ≡ min (raised (get_or xs i d)) (least (take i xs))
least_more xs i d inside = ap least (take_more xs i d inside) ∙ behind (take i xs) (get_or xs i d)
  where
    behind : (xs : List ℤ) (y : ℤ) → least (xs ++ y ∷ []) ≡ min (raised y) (least xs)
    behind [] y = refl
    behind (x ∷ xs) y = omega (arith, behind xs y)

-- and the greatest
pub greatest_more : (xs : List ℤ) (i : ℕ) (d : ℤ) → i < length xs
    → greatest (take (i + 1) xs) ≡ max (raised (get_or xs i d)) (greatest (take i xs))
greatest_more xs i d inside = ap greatest (take_more xs i d inside) ∙ behind (take i xs) (get_or xs i d)
  where
    behind : (xs : List ℤ) (y : ℤ) → greatest (xs ++ y ∷ []) ≡ max (raised y) (greatest xs)
    behind [] y = refl
    behind (x ∷ xs) y = omega (arith, behind xs y)

-- each value lies between them
pub between : (xs : List ℤ) (i : ℕ) (d : ℤ) → i < length xs
    → (least xs ≤ raised (get_or xs i d)) × (raised (get_or xs i d) ≤ greatest xs)
between [] i d inside = absurd (omega (arith, inside))
between (x ∷ xs) zero d inside = (omega arith, omega arith)
between (x ∷ xs) (suc i) d inside =
    let rest = between xs i d (omega (arith, inside)) in
    (omega (arith, rest.0), omega (arith, rest.1))

-- one code more in place of one that was not yet found
pub code_more : {X Y : Type 0} (f : X → Y) (xs : List X) (cs : List Y) (i : ℕ) (y z : Y) (d : X) → i < length xs → i < 256
    → cs ≡ map f (take i xs) ++ replicate (256 - i) z → y ≡ f (get_or xs i d)
    → set cs i y ≡ map f (take (i + 1) xs) ++ replicate (256 - (i + 1)) z
code_more f xs cs i y z d inside few is value =
    let long : length (map f (take i xs)) ≡ i = length-map (take i xs) f ∙ length-take-le i xs (omega (arith, inside)) in
    let left : 256 - i ≡ suc (256 - (i + 1)) = omega (arith, few) in
    let zeros = replicate (256 - (i + 1)) z in
    ap (λ l. set l i y) (is ∙ ap (λ k. map f (take i xs) ++ replicate k z) left)
    ∙ ap (λ k. set (map f (take i xs) ++ z ∷ zeros) k y) (sym long) ∙ set-append_seam (map f (take i xs)) z zeros y
    ∙ ap (λ v. map f (take i xs) ++ v ∷ zeros) value ∙ sym (append_assoc (map f (take i xs)) (f (get_or xs i d) ∷ []) zeros)
    ∙ ap (λ l. l ++ zeros) (sym (map_more f xs i d inside))
