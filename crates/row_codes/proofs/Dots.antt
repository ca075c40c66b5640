-- The dot product of codes and values by parts (`dot_split`): what sixteens of words add is that of all their codes (`dot_of_sixteens`),
-- and takes 28 bits, so no multiple of 2^32 is lost (`dot_whole`).
use Rattle.std.proofs.Common.{◌≡◌, ℕ, zero, suc, ◌+◌, ◌*◌, ◌/◌, ◌%◌, ◌<◌, ◌≤◌, arith, refl, ap, sym, ◌∙◌, List, [], ◌∷◌, ◌++◌, map, length, take, drop, replicate}
use Rattle.std.specs.Prelude.{ℤ, pos, ◌+ℤ◌, ◌*ℤ◌, FitsSigned, unsigned_abs}
use Rattle.std.specs.List.{All}
use Rattle.std.specs.Simd.Lanes.{chunk}
use Rattle.std.proofs.lemmas.Int.{ints, unsigned_abs-mul, fits_signed_from_abs, int_wrap_fits}
use Rattle.std.proofs.lemmas.Nat.{mul-le}
use Rattle.std.proofs.lemmas.List.{length-map, length-append, take-map, drop-map, drop-drop}
use Rattle.std.proofs.Math.IntN.{*ℤ-zero}
use Rattle.std.proofs.Math.ListN.{drop_of_length-le}
use Rattle.std.proofs.lemmas.List.Elements.{All-append, All-head, All-map, All-tail}
use mir.Syntax.{w16, w32}
use Rattle.row_codes.specs.Codes.{codes_of}
use Rattle.row_codes.specs.Lanes.{code_dot, sixteens_dot, wrapped}

-- codes of no values add nothing
no_values : (cs : List ℕ) → code_dot cs [] ≡ pos 0
no_values [] = refl
no_values (c ∷ cs) = refl

-- a dot product is that of the first places and that of the others
pub dot_split : (n : ℕ) (cs : List ℕ) (qs : List ℤ)
    → code_dot cs qs ≡ code_dot (take n cs) (take n qs) +ℤ code_dot (drop n cs) (drop n qs)
dot_split zero cs qs = omega (arith, ints)
dot_split (suc n) [] qs = omega (arith, ints)
dot_split (suc n) (c ∷ cs) [] = omega (arith, ints, no_values (drop n cs))
dot_split (suc n) (c ∷ cs) (q ∷ qs) =
    let rest = dot_split n cs qs in
    omega (arith, ints, rest)

-- codes that stand behind others meet the values behind theirs
pub dot_behind : (xs bs : List ℕ) (qs : List ℤ) → code_dot (xs ++ bs) qs ≡ code_dot xs qs +ℤ code_dot bs (drop (length xs) qs)
dot_behind [] bs qs = omega (arith, ints)
dot_behind (a ∷ xs) [] [] = omega (arith, ints)
dot_behind (a ∷ xs) (b ∷ bs) [] = omega (arith, ints)
dot_behind (a ∷ xs) bs (q ∷ qs) =
    let rest = dot_behind xs bs qs in
    omega (arith, ints, rest)

-- the size of a sum is at most the sizes of its parts
abs_sum : (a b : ℤ) → unsigned_abs (a +ℤ b) ≤ unsigned_abs a + unsigned_abs b
abs_sum a b = omega (arith, ints)

-- so many codes add so much at most
small_sum : (cs : List ℕ) (qs : List ℤ) → All (λ c. c < 16) cs → All (FitsSigned w16) qs
    → unsigned_abs (code_dot cs qs) ≤ length cs * 491520
small_sum [] qs small fits = omega arith
small_sum (c ∷ cs) [] small fits = omega arith
small_sum (c ∷ cs) (q ∷ qs) small fits =
    let value : FitsSigned w16 q = All-head (FitsSigned w16) q qs fits in
    let size : unsigned_abs q ≤ 32768 = omega (arith, ints, value) in
    let code : c < 16 = All-head (λ c. c < 16) c cs small in
    let product = mul-le c (unsigned_abs q) 15 32768 (omega (arith, code)) size in
    let rest = small_sum cs qs (All-tail (λ c. c < 16) c cs small) (All-tail (FitsSigned w16) q qs fits) in
    omega (arith, unsigned_abs-mul (pos c) q, product, rest, abs_sum (pos c *ℤ q) (code_dot cs qs))

-- what words hold is below 16
codes_small : (ws : List ℕ) → All (λ c. c < 16) (codes_of ws)
codes_small ws =
    All-append (λ c. c < 16) _ _
    (All-append (λ c. c < 16) _ _
    (All-append (λ c. c < 16) _ _ (held (λ w. w % 16) (λ w. omega arith)) (held (λ w. w / 16 % 16) (λ w. omega arith)))
    (held (λ w. w / 256 % 16) (λ w. omega arith)))
    (held (λ w. w / 4096 % 16) (λ w. omega arith))
  where
    held : (f : ℕ → ℕ) → ((w : ℕ) → f w < 16) → All (λ c. c < 16) (map f ws)
    held f small = All-map (λ c. c < 16) f ws (λ k d inside. small _)

-- four codes a word
pub codes_long : (ws : List ℕ) → length (codes_of ws) ≡ 4 * length ws
codes_long ws = simp (length-append, length-map) (omega arith)

-- what the first sixteens of codes and values add
abbrev parts : ℕ → List ℕ → List ℤ → ℤ
parts zero cs qs = pos 0
parts (suc n) cs qs = parts n cs qs +ℤ code_dot (chunk (16 * n) 16 cs) (chunk (16 * n) 16 qs)

-- the dot product is what they add and what is behind them
dot_parts : (n : ℕ) (cs : List ℕ) (qs : List ℤ)
    → code_dot cs qs ≡ parts n cs qs +ℤ code_dot (drop (16 * n) cs) (drop (16 * n) qs)
dot_parts zero cs qs = omega (arith, ints)
dot_parts (suc n) cs qs =
    let here = dot_split 16 (drop (16 * n) cs) (drop (16 * n) qs) in
    let next : 16 * n + 16 ≡ 16 * suc n = omega arith in
    let codes : drop 16 (drop (16 * n) cs) ≡ drop (16 * suc n) cs = drop-drop 16 (16 * n) cs ∙ ap (λ k. drop k cs) next in
    let values : drop 16 (drop (16 * n) qs) ≡ drop (16 * suc n) qs = drop-drop 16 (16 * n) qs ∙ ap (λ k. drop k qs) next in
    let behind : code_dot (drop 16 (drop (16 * n) cs)) (drop 16 (drop (16 * n) qs))
    ≡ code_dot (drop (16 * suc n) cs) (drop (16 * suc n) qs)
    = ap (λ l. code_dot l (drop 16 (drop (16 * n) qs))) codes ∙ ap (λ l. code_dot (drop (16 * suc n) cs) l) values in
    omega (arith, ints, dot_parts n cs qs, here, behind)

-- 64 codes have four sixteens
dot_four : (cs : List ℕ) (qs : List ℤ) → length cs ≡ 64 → code_dot cs qs ≡ parts 4 cs qs
dot_four cs qs long =
    let none : drop 64 cs ≡ [] = drop_of_length-le cs {i = 64} (omega (arith, long)) in
    let behind : code_dot (drop 64 cs) (drop 64 qs) ≡ pos 0 = ap (λ l. code_dot l (drop 64 qs)) none in
    omega (arith, ints, dot_parts 4 cs qs, behind)

-- the codes of sixteen words with the values from a place on
held_part : (f : ℕ → ℕ) (n at : ℕ) (ws : List ℕ) (qs : List ℤ)
    → code_dot (map f (chunk (16 * n) 16 ws)) (chunk (at + 16 * n) 16 qs)
    ≡ code_dot (chunk (16 * n) 16 (map f ws)) (chunk (16 * n) 16 (drop at qs))
held_part f n at ws qs =
    let codes : map f (chunk (16 * n) 16 ws) ≡ chunk (16 * n) 16 (map f ws)
    = sym (take-map f 16 (drop (16 * n) ws)) ∙ ap (take 16) (sym (drop-map f (16 * n) ws)) in
    let values : chunk (at + 16 * n) 16 qs ≡ chunk (16 * n) 16 (drop at qs) = ap (take 16) (sym (drop-drop (16 * n) at qs)) in
    ap (λ l. code_dot l (chunk (at + 16 * n) 16 qs)) codes ∙ ap (λ l. code_dot (chunk (16 * n) 16 (map f ws)) l) values

-- what sixteens of words add is what the sixteens of each of their codes do
sixteens_parts : (n : ℕ) (ws : List ℕ) (qs : List ℤ)
    → sixteens_dot n ws qs
    ≡ ((parts n (map (λ w. w % 16) ws) qs +ℤ parts n (map (λ w. w / 16 % 16) ws) (drop 64 qs))
    +ℤ parts n (map (λ w. w / 256 % 16) ws) (drop 128 qs)) +ℤ parts n (map (λ w. w / 4096 % 16) ws) (drop 192 qs)
sixteens_parts zero ws qs = omega (arith, ints)
sixteens_parts (suc n) ws qs =
    let one = held_part (λ w. w % 16) n 0 ws qs in
    let two = held_part (λ w. w / 16 % 16) n 64 ws qs in
    let three = held_part (λ w. w / 256 % 16) n 128 ws qs in
    let four = held_part (λ w. w / 4096 % 16) n 192 ws qs in
    let same : 0 + 16 * n ≡ 16 * n = omega arith in
    let first = ap (λ k. code_dot (map (λ w. w % 16) (chunk (16 * n) 16 ws)) (chunk k 16 qs)) (sym same) ∙ one in
    omega (arith, ints, sixteens_parts n ws qs, first, two, three, four)

-- what 64 words add is the dot product of all their codes
pub dot_of_sixteens : (ws : List ℕ) (qs : List ℤ) → length ws ≡ 64 → sixteens_dot 4 ws qs ≡ code_dot (codes_of ws) qs
dot_of_sixteens ws qs long =
    let low = map (λ w. w % 16) ws in
    let next = map (λ w. w / 16 % 16) ws in
    let third = map (λ w. w / 256 % 16) ws in
    let high = map (λ w. w / 4096 % 16) ws in
    let long_low : length low ≡ 64 = length-map ws (λ w. w % 16) ∙ long in
    let long_next : length next ≡ 64 = length-map ws (λ w. w / 16 % 16) ∙ long in
    let long_third : length third ≡ 64 = length-map ws (λ w. w / 256 % 16) ∙ long in
    let long_high : length high ≡ 64 = length-map ws (λ w. w / 4096 % 16) ∙ long in
    let long_two : length (low ++ next) ≡ 128 = omega (arith, length-append low next, long_low, long_next) in
    let long_three : length ((low ++ next) ++ third) ≡ 192 = omega (arith, length-append (low ++ next) third, long_two, long_third) in
    let last = dot_behind ((low ++ next) ++ third) high qs
    ∙ ap (λ k. code_dot ((low ++ next) ++ third) qs +ℤ code_dot high (drop k qs)) long_three in
    let before = dot_behind (low ++ next) third qs ∙ ap (λ k. code_dot (low ++ next) qs +ℤ code_dot third (drop k qs)) long_two in
    let front = dot_behind low next qs ∙ ap (λ k. code_dot low qs +ℤ code_dot next (drop k qs)) long_low in
    omega (
      arith,
      ints,
      sixteens_parts 4 ws qs,
      dot_four low qs long_low,
      dot_four next (drop 64 qs) long_next,
      dot_four third (drop 128 qs) long_third,
      dot_four high (drop 192 qs) long_high,
      last,
      before,
      front,
    )

-- it takes 28 bits
pub dot_small : (ws : List ℕ) (qs : List ℤ) → length ws ≡ 64 → All (FitsSigned w16) qs
    → unsigned_abs (code_dot (codes_of ws) qs) ≤ 125829120
dot_small ws qs long fits = omega (arith, small_sum (codes_of ws) qs (codes_small ws) fits, codes_long ws, long)

-- so no multiple of 2^32 is lost
pub dot_whole : (ws : List ℕ) (qs : List ℤ) → length ws ≡ 64 → All (FitsSigned w16) qs
    → wrapped (code_dot (codes_of ws) qs) ≡ code_dot (codes_of ws) qs
dot_whole ws qs long fits =
    let small = dot_small ws qs long fits in
    int_wrap_fits w32 (code_dot (codes_of ws) qs) (fits_signed_from_abs w32 (code_dot (codes_of ws) qs) (omega (arith, small)))

-- zeros behind values add nothing
pub dot_filled : (cs : List ℕ) (qs : List ℤ) (k : ℕ)
    → code_dot cs (qs ++ replicate k (pos 0)) ≡ code_dot (take (length qs) cs) qs
dot_filled cs [] k = zeros cs k
  where
    zeros : (cs : List ℕ) (k : ℕ) → code_dot cs (replicate k (pos 0)) ≡ pos 0
    zeros [] k = refl
    zeros (c ∷ cs) zero = refl
    zeros (c ∷ cs) (suc k) =
        let none = *ℤ-zero (pos c) in
        omega (arith, ints, zeros cs k, none)
dot_filled [] (q ∷ qs) k = refl
dot_filled (c ∷ cs) (q ∷ qs) k =
    let rest = dot_filled cs qs k in
    omega (arith, ints, rest)
