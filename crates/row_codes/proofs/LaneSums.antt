-- Sums of lanes, up to multiples of 2^32.
use Rattle.std.proofs.Common.{◌≡◌, ℕ, ◌+◌, ◌*◌, ◌%◌, ◌<◌, ap, sym, ◌∙◌, arith, List, [], ◌∷◌, ◌++◌, map, length, refl, subst, get_or}
use Rattle.std.specs.Prelude.{ℤ, pos, ◌+ℤ◌, ◌*ℤ◌, FitsSigned}
use Rattle.std.specs.Int.{int_wrapping_add}
use Rattle.std.specs.List.{All}
use Rattle.std.proofs.lemmas.Int.{ints, to_z-of_z, wrapping_add_is, wrapping_mul_is, wrapping_add_onto, wrapping_add-bits, int_wrap-add_left, int_wrap-add_right, fits_signed_from_abs}
use Rattle.std.proofs.lemmas.List.{length-map}
use Rattle.std.proofs.lemmas.Simd.{length-zip2}
use Rattle.std.proofs.lemmas.List.Elements.{All-head, All-tail, All-nil, All-cons, All-same}
use Rattle.std.proofs.lemmas.List.FromFn.{fill_by_all}
use Rattle.std.proofs.Math.Facts.{sfits_to_z}
use lib.Lanes.{zip2, fold_l, Each1}
use mir.Val.{to_z, of_z, Fits}
use mir.Syntax.{Width, w16, w32}
use Rattle.row_codes.specs.Lanes.{code_dot, lane_total, wrapped}

-- a lane and the rest
join : (l m r s t : ℤ) → l ≡ wrapped m → wrapped r ≡ wrapped s → m +ℤ s ≡ t → wrapped (l +ℤ r) ≡ wrapped t
join l m r s t lane rest is =
    ap (λ z. wrapped (z +ℤ r)) lane ∙ int_wrap-add_left w32 m r ∙ sym (int_wrap-add_right w32 m r)
    ∙ ap (λ z. wrapped (m +ℤ z)) rest ∙ int_wrap-add_right w32 m s ∙ ap wrapped is

-- lanes added
pub sums_added : (xs ys : List ℤ) → length xs ≡ length ys → All (FitsSigned w32) xs → All (FitsSigned w32) ys
    → wrapped (lane_total (map (to_z w32) (zip2 (λ a b. (a + b) % 4294967296) (map (of_z w32) xs) (map (of_z w32) ys))))
    ≡ wrapped (lane_total xs +ℤ lane_total ys)
sums_added [] [] same fx fy = refl
sums_added [] (y ∷ ys) same fx fy = absurd (omega (arith, same))
sums_added (x ∷ xs) [] same fx fy = absurd (omega (arith, same))
sums_added (x ∷ xs) (y ∷ ys) same fx fy =
    let fits = FitsSigned w32 in
    let lane = wrapping_add_is w32 x y (All-head fits x xs fx) (All-head fits y ys fy) in
    let rest = sums_added xs ys (omega (arith, same)) (All-tail fits x xs fx) (All-tail fits y ys fy) in
    join (int_wrapping_add w32 x y) (x +ℤ y)
    (lane_total (map (to_z w32) (zip2 (λ a b. (a + b) % 4294967296) (map (of_z w32) xs) (map (of_z w32) ys))))
    (lane_total xs +ℤ lane_total ys) ((x +ℤ lane_total xs) +ℤ (y +ℤ lane_total ys)) lane rest (omega (arith, ints))

-- products added
pub products_added : (f g : ℕ → ℕ) → ((n : ℕ) → f n ≡ n) → ((n : ℕ) → g n ≡ of_z w32 (to_z w16 n))
    → (cs : List ℕ) (vs : List ℤ) → Each1 (Fits w16) cs → All (FitsSigned w16) vs
    → wrapped (lane_total (map (to_z w32) (zip2 (λ a b. (a * b) % 4294967296) (map f cs) (map g (map (of_z w16) vs)))))
    ≡ wrapped (code_dot cs vs)
products_added f g f_is g_is [] vs fc fv = refl
products_added f g f_is g_is (c ∷ cs) [] fc fv = refl
products_added f g f_is g_is (c ∷ cs) (v ∷ vs) fc fv =
    let code : c < 65536 = fc.0.fits in
    let value : FitsSigned w16 v = All-head (FitsSigned w16) v vs fv in
    let code_fits : FitsSigned w32 (pos c) = fits_signed_from_abs w32 (pos c) (omega (arith, code)) in
    let value_fits : FitsSigned w32 v = fits_signed_from_abs w32 v (omega (arith, ints, value)) in
    let wide : g (of_z w16 v) ≡ of_z w32 v = g_is (of_z w16 v) ∙ ap (of_z w32) (to_z-of_z w16 v value) in
    let lane = ap (λ a. to_z w32 ((a * g (of_z w16 v)) % 4294967296)) (f_is c)
    ∙ ap (λ b. to_z w32 ((c * b) % 4294967296)) wide ∙ wrapping_mul_is w32 (pos c) v code_fits value_fits in
    let rest = products_added f g f_is g_is cs vs fc.1 (All-tail (FitsSigned w16) v vs fv) in
    join (to_z w32 ((f c * g (of_z w16 v)) % 4294967296)) (pos c *ℤ v)
    (lane_total (map (to_z w32) (zip2 (λ a b. (a * b) % 4294967296) (map f cs) (map g (map (of_z w16) vs)))))
    (code_dot cs vs) ((pos c *ℤ v) +ℤ code_dot cs vs) lane rest refl

-- neighbours added
abbrev pub paired : List ℤ → List ℤ
paired [] = []
paired (x ∷ []) = x ∷ []
paired (x ∷ y ∷ xs) = int_wrapping_add w32 x y ∷ paired xs

pub paired_sum : (xs : List ℤ) → All (FitsSigned w32) xs → wrapped (lane_total (paired xs)) ≡ wrapped (lane_total xs)
paired_sum [] fits = refl
paired_sum (x ∷ []) fits = refl
paired_sum (x ∷ y ∷ xs) fits =
    let fit = FitsSigned w32 in
    let lane = wrapping_add_is w32 x y (All-head fit x (y ∷ xs) fits) (All-head fit y xs (All-tail fit x (y ∷ xs) fits)) in
    let rest = paired_sum xs (All-tail fit y xs (All-tail fit x (y ∷ xs) fits)) in
    join (int_wrapping_add w32 x y) (x +ℤ y) (lane_total (paired xs)) (lane_total xs) (x +ℤ (y +ℤ lane_total xs)) lane rest
    (omega (arith, ints))

-- all lanes added, from a number on
pub folded_sum : (m : ℕ) (xs : List ℤ) → m < 4294967296 → All (FitsSigned w32) xs
    → to_z w32 (fold_l (λ a b. (a + b) % 4294967296) m (map (of_z w32) xs)) ≡ wrapped (to_z w32 m +ℤ lane_total xs)
folded_sum m [] small fits =
    let same : (m + 0) % 4294967296 ≡ m = omega (arith, small) in
    ap (to_z w32) (sym same) ∙ wrapping_add-bits w32 m 0 small (omega arith)
folded_sum m (x ∷ xs) small fits =
    let fit = FitsSigned w32 in
    let n = (m + of_z w32 x) % 4294967296 in
    let rest = folded_sum n xs (omega arith) (All-tail fit x xs fits) in
    let lane : to_z w32 n ≡ wrapped (to_z w32 m +ℤ x) = wrapping_add_onto w32 m x small (All-head fit x xs fits) in
    rest ∙ join (to_z w32 n) (to_z w32 m +ℤ x) (lane_total xs) (lane_total xs) (to_z w32 m +ℤ (x +ℤ lane_total xs)) lane refl (omega (arith, ints))

-- lanes that are bits of 32 fit
pub lanes_fit : (h : ℕ → ℕ → ℕ) → ((a b : ℕ) → h a b < 4294967296) → (xs ys : List ℕ)
    → All (FitsSigned w32) (map (to_z w32) (zip2 h xs ys))
lanes_fit h small [] ys = All-nil (FitsSigned w32)
lanes_fit h small (x ∷ xs) [] = All-nil (FitsSigned w32)
lanes_fit h small (x ∷ xs) (y ∷ ys) =
    All-cons (FitsSigned w32) (to_z w32 (h x y)) (map (to_z w32) (zip2 h xs ys))
    (sfits_to_z {w = w32} {n = h x y} (record { fits = small x y })) (lanes_fit h small xs ys)

-- so do neighbours added
pub paired_fit : (xs : List ℤ) → All (FitsSigned w32) xs → All (FitsSigned w32) (paired xs)
paired_fit [] fits = fits
paired_fit (x ∷ []) fits = fits
paired_fit (x ∷ y ∷ xs) fits =
    let fit = FitsSigned w32 in
    All-cons fit (int_wrapping_add w32 x y) (paired xs)
    (sfits_to_z {w = w32} {n = (of_z w32 x + of_z w32 y) % 4294967296} (record { fits = omega arith }))
    (paired_fit xs (All-tail fit y xs (All-tail fit x (y ∷ xs) fits)))

-- a lane of neighbours added, as it is computed
abbrev lane : List ℤ → ℕ → ℕ → ℤ
lane xs i j =
    to_z w32 ((get_or (map (of_z w32) xs ++ map (of_z w32) xs) i 0 + get_or (map (of_z w32) xs ++ map (of_z w32) xs) j 0) % 4294967296)

-- all of them
abbrev pub lanes : List ℤ → List ℤ
lanes xs =
    lane xs 0 1 ∷ lane xs 2 3 ∷ lane xs 4 5 ∷ lane xs 6 7 ∷ lane xs 8 9 ∷ lane xs 10 11 ∷ lane xs 12 13 ∷ lane xs 14 15 ∷ []

-- they are neighbours added
pub lanes_are : (xs : List ℤ) → length xs ≡ 16 → lanes xs ≡ paired xs
lanes_are xs long =
    let at : ℕ → ℤ = λ k. get_or xs k (pos 0) in
    let all = fill_by_all at xs 16 (pos 0) long (λ k inside. refl) in
    subst (λ l. lanes l ≡ paired l) (sym all) refl

-- what is handed on is the same, lanes and values alike
pub handed_back : {w : Width} (xs : List ℤ) → All (FitsSigned w) xs → map (to_z w) (map (of_z w) xs) ≡ xs
handed_back [] fits = refl
handed_back {w} (x ∷ xs) fits =
    let fit = FitsSigned w in
    let first = to_z-of_z w x (All-head fit x xs fits) in
    let rest = handed_back {w = w} xs (All-tail fit x xs fits) in
    λ i. first i ∷ rest i

-- so it fits
pub handed_fit : {w : Width} (xs : List ℤ) → All (FitsSigned w) xs → All (FitsSigned w) (map (to_z w) (map (of_z w) xs))
handed_fit {w} xs fits = All-same (FitsSigned w) (map (to_z w) (map (of_z w) xs)) xs (handed_back {w = w} xs fits) fits

-- and is as long
pub handed_long : (w : Width) (xs : List ℤ) → length (map (to_z w) (map (of_z w) xs)) ≡ length xs
handed_long w xs = length-map (map (of_z w) xs) (to_z w) ∙ length-map xs (of_z w)

-- two sums, each up to multiples of 2^32
pub both : (a b m n : ℤ) → wrapped a ≡ wrapped m → wrapped b ≡ wrapped n → wrapped (a +ℤ b) ≡ wrapped (m +ℤ n)
both a b m n one two =
    sym (int_wrap-add_left w32 a b) ∙ ap (λ z. wrapped (z +ℤ b)) one ∙ int_wrap-add_left w32 m b
    ∙ sym (int_wrap-add_right w32 m b) ∙ ap (λ z. wrapped (m +ℤ z)) two ∙ int_wrap-add_right w32 m n

-- what two vectors that are handed on add up to
pub handed_both : (xs ys : List ℤ) (m n : ℤ) → All (FitsSigned w32) xs → All (FitsSigned w32) ys → wrapped (lane_total xs) ≡ wrapped m
    → wrapped (lane_total ys) ≡ wrapped n
    → wrapped (lane_total (map (to_z w32) (map (of_z w32) xs)) +ℤ lane_total (map (to_z w32) (map (of_z w32) ys))) ≡ wrapped (m +ℤ n)
handed_both xs ys m n fx fy one two =
    ap (λ l. wrapped (lane_total l +ℤ lane_total (map (to_z w32) (map (of_z w32) ys)))) (handed_back xs fx)
    ∙ ap (λ l. wrapped (lane_total xs +ℤ lane_total l)) (handed_back ys fy)
    ∙ both (lane_total xs) (lane_total ys) m n one two

-- as many lanes as before
pub lanes_long : (n : ℕ) (h : ℕ → ℕ → ℕ) (us vs : List ℕ) → length us ≡ n → length vs ≡ n → length (map (to_z w32) (zip2 h us vs)) ≡ n
lanes_long n h us vs one two = length-map (zip2 h us vs) (to_z w32) ∙ length-zip2 h us vs (one ∙ sym two) ∙ one
