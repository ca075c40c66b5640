-- Lanes of differences: greater less lesser in 16 bits is the difference (`differences_are`), a
-- mask
-- widens it (`widened_are`), and so it is of what vectors are handed (`handed_differences`).
use Rattle.std.proofs.Common.{◌≡◌, ℕ, ◌+◌, ◌-◌, ◌%◌, ◌<◌, refl, ap, sym, ◌∙◌, Bool, true, false, cond, arith, List, [], ◌∷◌, map, length, replicate, subst}
use Rattle.std.specs.Prelude.{ℤ, pos, FitsSigned, bit_and}
use Rattle.std.specs.List.{All}
use Rattle.std.proofs.lemmas.Int.{ints, of_z-to_z, to_z-of_z, to_z_pos}
use Rattle.std.proofs.lemmas.List.Elements.{All-head, All-tail}
use Rattle.std.proofs.lemmas.Nat.{and_mask}
use Rattle.std.specs.Int.Bits.{mask_lt}
use Rattle.std.proofs.lemmas.Simd.{Each1-zip2, Each2-splat, Each1-all, zip2_splat}
use Rattle.std.proofs.Math.ListN.{length-map}
use Rattle.std.proofs.Math.IntN.{nat_abs}
use Rattle.std.proofs.Math.Facts.{sfits_to_z}
use lib.Lanes.{zip2, sel_l, top, Each1}
use lib.Dec.{T}
use lib.Signed.{lt_z, non_neg}
use mir.Val.{to_z, of_z, Fits}
use mir.Syntax.{w16, w32}
use Rattle.simd_distance.specs.Lanes.{difference, bits_of}

-- what a lane compares
abbrev pub bits_less : ℕ → ℕ → Bool
bits_less a b = lt_z (to_z w16 a) (to_z w16 b)

-- what a lane holds of a comparison
abbrev pub mask_of : Bool → ℕ
mask_of b = cond b 65535 0

-- what a lane subtracts
abbrev pub bits_minus : ℕ → ℕ → ℕ
bits_minus a b = (a + (65536 - b)) % 65536

-- what a lane computes of the bits of two values, where it is known which is the lesser
abbrev pub lane_minus : Bool → ℕ → ℕ → ℕ
lane_minus less a b =
    bits_minus (cond (top 15 (mask_of less)) b a) (cond (top 15 (mask_of less)) a b)

-- that is the difference of the values
lane_difference : (x y : ℤ) (less : Bool) → FitsSigned w16 x → FitsSigned w16 y
    → less ≡ bits_less (of_z w16 x) (of_z w16 y)
    → lane_minus less (of_z w16 x) (of_z w16 y) ≡ difference x y
lane_difference x y true fx fy is = grind (arith, ints)
lane_difference x y false fx fy is = grind (arith, ints)

-- the comparisons of the lanes of two vectors
abbrev pub masks : List ℕ → List ℕ → List Bool
masks us vs = map (top 15) (zip2 (λ a b. mask_of (bits_less a b)) us vs)

-- the greater lanes less the lesser ones, read without a sign, are the differences
pub differences_are : (xs ys : List ℤ) → All (FitsSigned w16) xs → All (FitsSigned w16) ys
    → bits_of (map (to_z w16) (zip2 bits_minus
    (sel_l (masks (bits_of xs) (bits_of ys)) (bits_of ys) (bits_of xs))
    (sel_l (masks (bits_of xs) (bits_of ys)) (bits_of xs) (bits_of ys))))
    ≡ zip2 difference xs ys
differences_are [] ys fx fy = refl
differences_are (x ∷ xs) [] fx fy = refl
differences_are (x ∷ xs) (y ∷ ys) fx fy =
    let fits = FitsSigned w16 in
    let a = of_z w16 x in
    let b = of_z w16 y in
    let back : of_z w16 (to_z w16 (lane_minus (bits_less a b) a b)) ≡ lane_minus (bits_less a b)
    a b
    = of_z-to_z w16 (lane_minus (bits_less a b) a b) (omega arith) in
    let first = back
    ∙ lane_difference x y (bits_less a b) (All-head fits x xs fx) (All-head fits y ys fy) refl in
    let rest = differences_are xs ys (All-tail fits x xs fx) (All-tail fits y ys fy) in
    λ i. first i ∷ rest i

-- sixteen bits, widened with their sign
abbrev pub with_sign : ℕ → ℕ
with_sign n = of_z w32 (to_z w16 n)

-- what a mask leaves is a number without a sign
abbrev pub IsPlain : ℕ → Type 0
IsPlain n = T (non_neg (to_z w32 n)) × Fits w32 (nat_abs (to_z w32 n))

-- the low sixteen bits are a number without a sign
masked_is_plain : (n : ℕ) → IsPlain (bit_and n 65535)
masked_is_plain n =
    let low : bit_and n 65535 < 65536 = mask_lt n 16 in
    let plain : to_z w32 (bit_and n 65535) ≡ pos (bit_and n 65535)
    = to_z_pos w32 (bit_and n 65535) (omega arith) in (
      subst (λ (z : ℤ). T (non_neg z)) (sym plain) tt,
      subst (λ (z : ℤ). Fits w32 (nat_abs z)) (sym plain) (record { fits = omega arith }),
    )

-- each lane that a mask leaves is a number without a sign
pub masked_are_plain : (ns : List ℕ) (k : ℕ) → Each1 IsPlain (zip2 bit_and ns (replicate k 65535))
masked_are_plain ns k =
    Each1-zip2 bit_and IsPlain ns (replicate k 65535)
    (Each2-splat (λ n m. IsPlain (bit_and n m)) ns k 65535
    (Each1-all (λ n. IsPlain (bit_and n 65535)) masked_is_plain ns))

-- the low sixteen bits of a widened value are its bits
low_bits : (z : ℤ) → FitsSigned w16 z → of_z w32 z % 65536 ≡ of_z w16 z
low_bits z fits = omega (arith, ints)

-- sixteen bits, widened with their sign, masked and read without a sign, are the number
lane_is : (n : ℕ) → n < 65536 → nat_abs (to_z w32 (bit_and (with_sign n) 65535)) ≡ n
lane_is n small =
    let low : bit_and (with_sign n) 65535 ≡ with_sign n % 65536 = and_mask (with_sign n) 16 in
    let whole : with_sign n % 65536 ≡ of_z w16 (to_z w16 n)
    = low_bits (to_z w16 n) (sfits_to_z (record { fits = small })) in
    ap (λ m. nat_abs (to_z w32 m)) (low ∙ whole ∙ of_z-to_z w16 n small)
    ∙ ap nat_abs (to_z_pos w32 n (omega arith))

-- so are the lanes
lanes_are : (ns : List ℕ) → Each1 (λ n. n < 65536) ns
    → map (λ n. nat_abs (to_z w32 n)) (map (λ n. bit_and n 65535) (map with_sign ns)) ≡ ns
lanes_are [] small = refl
lanes_are (n ∷ ns) small =
    let first = lane_is n small.0 in
    let rest = lanes_are ns small.1 in
    λ i. first i ∷ rest i

-- the lanes of a vector of k lanes, widened with their sign, masked and read without a sign
pub widened_are : (ns : List ℕ) (k : ℕ) → length ns ≡ k → Each1 (λ n. n < 65536) ns
    → map (λ n. nat_abs (to_z w32 n)) (zip2 bit_and (map with_sign ns) (replicate k 65535)) ≡ ns
widened_are ns k long small =
    ap (map (λ n. nat_abs (to_z w32 n)))
    (zip2_splat bit_and (map with_sign ns) k 65535 (length-map ns with_sign ∙ long))
    ∙ lanes_are ns small

-- differences of 16-bit values take 16 bits
pub differences_small : (xs ys : List ℤ) → All (FitsSigned w16) xs → All (FitsSigned w16) ys
    → Each1 (λ n. n < 65536) (zip2 difference xs ys)
differences_small [] ys fx fy = tt
differences_small (x ∷ xs) [] fx fy = tt
differences_small (x ∷ xs) (y ∷ ys) fx fy =
    let fits = FitsSigned w16 in
    let here_x : FitsSigned w16 x = All-head fits x xs fx in
    let here_y : FitsSigned w16 y = All-head fits y ys fy in
    (omega (arith, ints), differences_small xs ys (All-tail fits x xs fx) (All-tail fits y ys fy))

-- values that a vector is handed are read back from their bits
pub read_back : (xs : List ℤ) → All (FitsSigned w16) xs → map (to_z w16) (map (of_z w16) xs) ≡ xs
read_back [] fits = refl
read_back (x ∷ xs) fits =
    let first : to_z w16 (of_z w16 x) ≡ x = to_z-of_z w16 x (All-head (FitsSigned w16) x xs fits)
    in
    let rest = read_back xs (All-tail (FitsSigned w16) x xs fits) in
    λ i. first i ∷ rest i

-- bits that a vector is handed are its lanes' bits
pub bits_back : (ns : List ℕ) → Each1 (λ n. n < 65536) ns → bits_of (map (to_z w16) ns) ≡ ns
bits_back [] small = refl
bits_back (n ∷ ns) small =
    let first : of_z w16 (to_z w16 n) ≡ n = of_z-to_z w16 n small.0 in
    let rest = bits_back ns small.1 in
    λ i. first i ∷ rest i

-- what a vector is handed of a list of values
abbrev pub handed : List ℤ → List ℤ
handed xs = map (to_z w16) (map (of_z w16) xs)

-- differences of what vectors were handed, handed on, are the differences of the values
pub handed_differences : (xs ys bits : List ℤ) → All (FitsSigned w16) xs → All (FitsSigned w16) ys
    → bits_of bits ≡ zip2 difference (handed xs) (handed ys)
    → bits_of (handed bits) ≡ zip2 difference xs ys
handed_differences xs ys bits fx fy is =
    let plain : bits_of bits ≡ zip2 difference xs ys = is
    ∙ ap (λ l. zip2 difference l (handed ys)) (read_back xs fx)
    ∙ ap (zip2 difference xs) (read_back ys fy) in
    let small = subst (Each1 (λ n. n < 65536)) (sym plain) (differences_small xs ys fx fy) in
    bits_back (bits_of bits) small ∙ plain
