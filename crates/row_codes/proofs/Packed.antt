-- Words that are filled one by one (`front_more`), and the codes that they hold (`codes_packed`).
use Rattle.std.proofs.Common.{◌≡◌, ℕ, zero, suc, ◌+◌, ◌*◌, ◌/◌, ◌%◌, ◌<◌, ◌≤◌, arith, sym, ap, ◌∙◌, refl, List, [], ◌∷◌, ◌++◌, length, take, drop, map, set, get_or}
use Rattle.std.specs.List.{All, range_with_len}
use Rattle.std.specs.Simd.Lanes.{chunk}
use Rattle.std.proofs.lemmas.List.{take_more_set, take_all, length-drop, drop-drop, take-append-drop, append_assoc}
use Rattle.std.proofs.lemmas.List.FromFn.{map-range_with_len_more}
use Rattle.std.proofs.Math.Seq.{drop-cons}
use Rattle.row_codes.specs.Codes.{codes_of, packed, word_of}

-- writing the next value fills one place more
pub front_more : {X : Type 0} (f : ℕ → X) (xs : List X) (k : ℕ) (y : X) → k < length xs
    → take k xs ≡ map f (range_with_len 0 k) → y ≡ f k → take (k + 1) (set xs k y) ≡ map f (range_with_len 0 (k + 1))
front_more f xs k y inside so value =
    take_more_set xs k y inside
    ∙ ap (λ front. front ++ y ∷ []) so
    ∙ ap (λ v. map f (range_with_len 0 k) ++ v ∷ []) value
    ∙ sym (map-range_with_len_more f 0 k k (omega arith))

-- a code that is taken out of a word is the one that was put in
taken_out : (a b c d : ℕ) → a < 16 → b < 16 → c < 16 → d < 16
    → ((a + 16 * b + 256 * c + 4096 * d) % 16 ≡ a) × ((a + 16 * b + 256 * c + 4096 * d) / 16 % 16 ≡ b)
    × ((a + 16 * b + 256 * c + 4096 * d) / 256 % 16 ≡ c) × ((a + 16 * b + 256 * c + 4096 * d) / 4096 % 16 ≡ d)
taken_out a b c d small_a small_b small_c small_d = (omega arith, omega arith, omega arith, omega arith)

-- what is taken out of words in turn is what stands in some places in turn
in_turn : (f : ℕ → ℕ) (cs : List ℕ) (at j n : ℕ) → at + j + n ≤ length cs
    → ((i : ℕ) → i < j + n → f (word_of cs i) ≡ get_or cs (at + i) 0)
    → map f (map (word_of cs) (range_with_len j n)) ≡ chunk (at + j) n cs
in_turn f cs at j zero inside is = refl
in_turn f cs at j (suc n) inside is =
    let here : f (word_of cs j) ≡ get_or cs (at + j) 0 = is j (omega arith) in
    let rest = in_turn f cs at (j + 1) n (omega (arith, inside)) (λ i low. is i (omega (arith, low))) in
    let next : at + (j + 1) ≡ suc (at + j) = omega arith in
    let behind : map f (map (word_of cs) (range_with_len (j + 1) n)) ≡ take n (drop (suc (at + j)) cs)
    = rest ∙ ap (λ k. take n (drop k cs)) next in
    (λ i. here i ∷ behind i) ∙ ap (take (suc n)) (sym (drop-cons cs (at + j) 0 (omega (arith, inside))))

-- 256 codes are four times 64
four_parts : (cs : List ℕ) → length cs ≡ 256 → ((chunk 0 64 cs ++ chunk 64 64 cs) ++ chunk 128 64 cs) ++ chunk 192 64 cs ≡ cs
four_parts cs long =
    let last : chunk 192 64 cs ≡ drop 192 cs = take_all 64 (drop 192 cs) (omega (arith, length-drop 192 cs, long)) in
    let three : chunk 128 64 cs ++ drop 192 cs ≡ drop 128 cs
    = ap (λ l. chunk 128 64 cs ++ l) (sym (drop-drop 64 128 cs)) ∙ take-append-drop 64 (drop 128 cs) in
    let two : chunk 64 64 cs ++ drop 128 cs ≡ drop 64 cs
    = ap (λ l. chunk 64 64 cs ++ l) (sym (drop-drop 64 64 cs)) ∙ take-append-drop 64 (drop 64 cs) in
    ap (λ l. ((chunk 0 64 cs ++ chunk 64 64 cs) ++ chunk 128 64 cs) ++ l) last
    ∙ append_assoc (chunk 0 64 cs ++ chunk 64 64 cs) (chunk 128 64 cs) (drop 192 cs)
    ∙ ap (λ l. (chunk 0 64 cs ++ chunk 64 64 cs) ++ l) three
    ∙ append_assoc (chunk 0 64 cs) (chunk 64 64 cs) (drop 128 cs)
    ∙ ap (λ l. chunk 0 64 cs ++ l) two
    ∙ take-append-drop 64 cs

-- words hold the codes that were put into them
pub codes_packed : (cs : List ℕ) → length cs ≡ 256 → All (λ c. c < 16) cs → codes_of (packed cs) ≡ cs
codes_packed cs long small =
    let out = λ (i : ℕ) (low : i < 64). taken_out (get_or cs i 0) (get_or cs (64 + i) 0) (get_or cs (128 + i) 0) (get_or cs (192 + i) 0)
    (code i (omega (arith, low))) (code (64 + i) (omega (arith, low))) (code (128 + i) (omega (arith, low)))
    (code (192 + i) (omega (arith, low))) in
    let one = in_turn (λ w. w % 16) cs 0 0 64 (omega (arith, long)) (λ i low. (out i low).0 ∙ ap (λ k. get_or cs k 0) (from_none i)) in
    let two = in_turn (λ w. w / 16 % 16) cs 64 0 64 (omega (arith, long)) (λ i low. (out i low).1) in
    let three = in_turn (λ w. w / 256 % 16) cs 128 0 64 (omega (arith, long)) (λ i low. (out i low).2) in
    let four = in_turn (λ w. w / 4096 % 16) cs 192 0 64 (omega (arith, long)) (λ i low. (out i low).3) in
    (λ i. ((one i ++ two i) ++ three i) ++ four i) ∙ four_parts cs long
  where
    from_none : (i : ℕ) → i ≡ 0 + i
    from_none i = omega arith

    code : (i : ℕ) → i < 256 → get_or cs i 0 < 16
    code i low = small i 0 (omega (arith, long, low))
