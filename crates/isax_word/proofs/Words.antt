-- Words and their children: a full word that a word contains is contained in exactly one child of
-- each split, by its next bit (`child_contains`).
use Rattle.std.proofs.Common.{◌≡◌, ℕ, zero, suc, ◌+◌, ◌-◌, ◌*◌, ◌/◌, ◌%◌, ◌^◌, ◌<◌, ◌≤◌, Bool, true, false, cond, eqb, leb, ⊎_elim, arith, refl, sym, ap, ◌∙◌, List, [], ◌∷◌, length, drop, get_or}
use Rattle.std.specs.Prelude.{◌&&◌}
use Rattle.std.proofs.lemmas.Bool.{and_parts, and_from, cases_Bool, eqb-true, eqb-false, eq-eqb, false_from_ne_true, false≢true, le-leb, leb-true, ne_eqb}
use Rattle.std.proofs.lemmas.List.{drop_more, length-set}
use Rattle.std.proofs.lemmas.List.Elements.{All-get_or, All-set}
use Rattle.std.proofs.lemmas.Nat.{div_below, le-div, pow_pos, pow-add, shr-shr, shr_split, mod_below}
use Rattle.std.proofs.Math.Nat.{lt-div-mul-add, div-mul-le_self, mul_comm, mul-le-mul_right, pow-le-pow_right}
use Rattle.isax_word.specs.declared.word.Part.{Part}
use Rattle.isax_word.specs.Word.{IsPart, IsWord, no_part, part_at, parts_of, first_bits, part_contains, word_contains, first_symbol, end_symbol, last_symbol, child_part, child_word, next_bit}

-- a symbol that a part contains lies from p * 2^(8-c) up to (p+1) * 2^(8-c), the latter left out
pub symbols_of_part : (p : Part) (s : ℕ) → part_contains p s ≡ true
    → (p.prefix * 2 ^ (8 - p.bits) ≤ s) × (s < (p.prefix + 1) * 2 ^ (8 - p.bits))
symbols_of_part p s contained =
    let place = 2 ^ (8 - p.bits) in
    let is : s / place ≡ p.prefix = eqb-true (s / place) p.prefix contained in
    let scaled : s / place * place ≡ p.prefix * place = ap (λ n. n * place) is in
    let low : s / place * place ≤ s = div-mul-le_self s place in
    let high : s < s / place * place + place = lt-div-mul-add (pow_pos (8 - p.bits)) in
    (omega (arith, low, scaled), omega (arith, high, scaled))

-- and what lies there, the part contains
pub part_of_symbols : (p : Part) (s : ℕ) → p.prefix * 2 ^ (8 - p.bits) ≤ s → s < (p.prefix + 1) * 2 ^ (8 - p.bits)
    → part_contains p s ≡ true
part_of_symbols p s low high =
    let place = 2 ^ (8 - p.bits) in
    let some : 0 < place = pow_pos (8 - p.bits) in
    let at_least : p.prefix ≤ s / place = le-div p.prefix s place some low in
    let below : s / place < p.prefix + 1 = div_below s place (p.prefix + 1) some high in
    eq-eqb (s / place) p.prefix (omega (arith, at_least, below))

-- so a part contains a symbol where that lies from its least symbol to its greatest
pub part_between : (p : Part) (s : ℕ) → (leb (first_symbol p) s && leb s (last_symbol p)) ≡ part_contains p s
part_between p s = ⊎_elim contained apart (cases_Bool (part_contains p s))
  where
    -- the greatest symbol is one before the end
    some_end : 1 ≤ end_symbol p
    some_end =
        let place = 2 ^ (8 - p.bits) in
        let some : 0 < place = pow_pos (8 - p.bits) in
        let split : (p.prefix + 1) * place ≡ p.prefix * place + place = omega arith in
        omega (arith, split, some)

    -- where the part contains the symbol both tests hold
    contained : part_contains p s ≡ true → (leb (first_symbol p) s && leb s (last_symbol p)) ≡ part_contains p s
    contained is =
        let range = symbols_of_part p s is in
        and_from _ _ (le-leb (first_symbol p) s range.0) (le-leb s (last_symbol p) (omega (arith, range.1, some_end))) ∙ sym is

    -- and else one of them fails
    apart : part_contains p s ≡ false → (leb (first_symbol p) s && leb s (last_symbol p)) ≡ part_contains p s
    apart is =
        false_from_ne_true _ (λ both.
        let parts = and_parts _ _ both in
        let low = leb-true (first_symbol p) s parts.0 in
        let high = leb-true s (last_symbol p) parts.1 in
        false≢true (sym is ∙ part_of_symbols p s low (omega (arith, high, some_end))))
        ∙ sym is

-- the first bits and the next bit of a symbol are its first bits of one more
pub first_bits_next : (c s : ℕ) → c < 8 → first_bits (c + 1) s ≡ 2 * first_bits c s + next_bit c s
first_bits_next c s inside =
    let k = 8 - (c + 1) in
    let t = s / 2 ^ k in
    let one_more : 8 - c ≡ k + 1 = omega arith in
    let half : t / 2 ≡ s / 2 ^ (8 - c) = shr-shr s k 1 ∙ ap (λ n. s / 2 ^ n) (sym one_more) in
    let split : t / 2 * 2 + t % 2 ≡ t = shr_split t 1 in
    omega (arith, half, split)

-- a test whether a number is a sum with a first summand is a test of the second
eqb-add : (a x y : ℕ) → eqb (a + x) (a + y) ≡ eqb x y
eqb-add a x y = by_test (eqb x y) refl
  where
    -- both tests have the one answer
    by_test : (b : Bool) → eqb x y ≡ b → eqb (a + x) (a + y) ≡ b
    by_test true same = eq-eqb (a + x) (a + y) (ap (λ n. a + n) (eqb-true x y same))
    by_test false apart = ne_eqb (a + x) (a + y) (λ same. eqb-false x y apart (omega arith))

-- the bit that a child adds
abbrev pub added_bit : Bool → ℕ
added_bit high = cond high 1 0

-- it is 0 or 1
pub added_bit-le : (high : Bool) → added_bit high ≤ 1
added_bit-le true = omega arith
added_bit-le false = omega arith

-- a child of a part that contains a symbol contains it where the added bit is the symbol's next bit
pub child_part_contains : (p : Part) (high : Bool) (s : ℕ) → p.bits < 8 → part_contains p s ≡ true
    → part_contains (child_part p high) s ≡ eqb (next_bit p.bits s) (added_bit high)
child_part_contains p high s divisible contained =
    let is : first_bits p.bits s ≡ p.prefix = eqb-true (first_bits p.bits s) p.prefix contained in
    let more : first_bits (p.bits + 1) s ≡ 2 * p.prefix + next_bit p.bits s
    = first_bits_next p.bits s divisible ∙ ap (λ n. 2 * n + next_bit p.bits s) is in
    ap (λ n. eqb n (2 * p.prefix + added_bit high)) more
    ∙ eqb-add (2 * p.prefix) (next_bit p.bits s) (added_bit high)

-- what a child of a part contains, the part contains
pub child_part_within : (p : Part) (high : Bool) (s : ℕ) → p.bits < 8
    → part_contains (child_part p high) s ≡ true → part_contains p s ≡ true
child_part_within p high s divisible contained =
    let is : first_bits (p.bits + 1) s ≡ 2 * p.prefix + added_bit high
    = eqb-true (first_bits (p.bits + 1) s) (2 * p.prefix + added_bit high) contained in
    let more = first_bits_next p.bits s divisible in
    let bit : next_bit p.bits s < 2 = mod_below (first_bits (p.bits + 1) s) 2 (omega arith) in
    eq-eqb (first_bits p.bits s) p.prefix (by_bit high is more bit)
  where
    -- an added bit is the remainder of a division by 2
    by_bit : (b : Bool) → first_bits (p.bits + 1) s ≡ 2 * p.prefix + cond b 1 0
        → first_bits (p.bits + 1) s ≡ 2 * first_bits p.bits s + next_bit p.bits s
        → next_bit p.bits s < 2
        → first_bits p.bits s ≡ p.prefix
    by_bit true is more bit = omega arith
    by_bit false is more bit = omega arith

-- a test and a true one are the test
and_true : (x y : Bool) → y ≡ true → (x && y) ≡ x
and_true true y e = e
and_true false y e = refl

-- a child of a word that contains a full word contains it where the added bit is the symbol's next
-- bit
pub child_contains : (word : List Part) (j : ℕ) (high : Bool) (symbols : List ℕ)
    → j < length word → (part_at word j).bits < 8 → word_contains word symbols ≡ true
    → word_contains (child_word word j high) symbols
    ≡ eqb (next_bit (part_at word j).bits (get_or symbols j 0)) (added_bit high)
child_contains [] j high symbols used divisible contained = absurd (omega arith)
child_contains (p ∷ word) zero high [] used divisible contained = cc
child_contains (p ∷ word) zero high (s ∷ symbols) used divisible contained =
    let parts = and_parts _ _ contained in
    and_true (part_contains (child_part p high) s) _ parts.1
    ∙ child_part_contains p high s divisible parts.0
child_contains (p ∷ word) (suc j) high [] used divisible contained = cc
child_contains (p ∷ word) (suc j) high (s ∷ symbols) used divisible contained =
    let parts = and_parts _ _ contained in
    ap (λ b. b && word_contains (child_word word j high) symbols) parts.0
    ∙ child_contains word j high symbols (omega arith) divisible parts.1

-- what a child of a word contains, the word contains
pub child_within : (word : List Part) (j : ℕ) (high : Bool) (symbols : List ℕ)
    → j < length word → (part_at word j).bits < 8
    → word_contains (child_word word j high) symbols ≡ true
    → word_contains word symbols ≡ true
child_within [] j high symbols used divisible contained = absurd (omega arith)
child_within (p ∷ word) zero high [] used divisible contained = cc
child_within (p ∷ word) zero high (s ∷ symbols) used divisible contained =
    let parts = and_parts _ _ contained in
    and_from _ _ (child_part_within p high s divisible parts.0) parts.1
child_within (p ∷ word) (suc j) high [] used divisible contained = cc
child_within (p ∷ word) (suc j) high (s ∷ symbols) used divisible contained =
    let parts = and_parts _ _ contained in
    and_from _ _ parts.0 (child_within word j high symbols (omega arith) divisible parts.1)

-- a child of a part is a part
pub IsPart-child_part : (p : Part) (high : Bool) → IsPart p → p.bits < 8
    → IsPart (child_part p high)
IsPart-child_part p high is divisible =
    let bit : added_bit high ≤ 1 = added_bit-le high in
    record {
      some_bits = omega arith;
      eight_bits = omega arith;
      prefix_fits = let twice : 2 ^ (p.bits + 1) ≡ 2 * 2 ^ p.bits = pow-add 2 p.bits 1
          ∙ mul_comm _ _ in
          omega (arith, is.prefix_fits, twice);
    }

-- the prefix of a part of fewer than 8 bits is below 128
pub prefix-lt : (p : Part) → IsPart p → p.bits < 8 → p.prefix < 128
prefix-lt p is divisible =
    let few : p.bits ≤ 7 = omega arith in
    let small : 2 ^ p.bits ≤ 2 ^ 7
    = pow-le-pow_right {n = 2} (omega arith) {i = p.bits} {j = 7} few in
    omega (arith, is.prefix_fits, small)

-- a child of a word is a word
pub IsWord-child_word : (word : List Part) (j : ℕ) (high : Bool) → IsWord word → j < length word
    → (part_at word j).bits < 8 → IsWord (child_word word j high)
IsWord-child_word word j high is used divisible =
    let long : length (child_word word j high) ≡ length word = length-set word j _ in
    record {
      some_parts = omega (arith, is.some_parts, long);
      few_parts = omega (arith, is.few_parts, long);
      parts = All-set IsPart word j _
          (IsPart-child_part (part_at word j) high
          (All-get_or IsPart word j no_part used is.parts) divisible) is.parts;
    }

-- what is left of a word and a full word begins with their next segment
pub contains_next : (word : List Part) (symbols : List ℕ) (j : ℕ) → j < length word
    → j < length symbols
    → word_contains (drop j word) (drop j symbols)
    ≡ (part_contains (part_at word j) (get_or symbols j 0) && word_contains (drop (j + 1) word)
    (drop (j + 1) symbols))
contains_next word symbols j in_word in_symbols =
    ap (λ w. word_contains w (drop j symbols)) (drop_more word j no_part in_word)
    ∙ ap (λ ss. word_contains (part_at word j ∷ drop (j + 1) word) ss)
    (drop_more symbols j 0 in_symbols)

-- a word of as many prefixes as numbers of bits has as many parts
pub length-parts_of : (prefixes bits : List ℕ) → length prefixes ≡ length bits
    → length (parts_of prefixes bits) ≡ length prefixes
length-parts_of [] bits same = refl
length-parts_of (p ∷ prefixes) [] same = absurd (omega arith)
length-parts_of (p ∷ prefixes) (b ∷ bits) same =
    ap (λ n. suc n) (length-parts_of prefixes bits (omega arith))

-- what is left of prefixes and numbers of bits makes the next part and the rest
pub parts_of-drop : (prefixes bits : List ℕ) (j : ℕ) → j < length prefixes → j < length bits
    → parts_of (drop j prefixes) (drop j bits)
    ≡ record {
      prefix = get_or prefixes j 0;
      bits = get_or bits j 0;
    } ∷ parts_of (drop (j + 1) prefixes) (drop (j + 1) bits)
parts_of-drop prefixes bits j in_prefixes in_bits =
    ap (λ ps. parts_of ps (drop j bits)) (drop_more prefixes j 0 in_prefixes)
    ∙ ap (λ bs. parts_of (get_or prefixes j 0 ∷ drop (j + 1) prefixes) bs)
    (drop_more bits j 0 in_bits)

-- the part of segment j of a word of prefixes and numbers of bits
pub part_at-parts_of : (prefixes bits : List ℕ) (j : ℕ) → j < length prefixes → j < length bits
    → part_at (parts_of prefixes bits) j ≡ record {
      prefix = get_or prefixes j 0;
      bits = get_or bits j 0;
    }
part_at-parts_of [] bits j in_prefixes in_bits = absurd (omega arith)
part_at-parts_of (p ∷ prefixes) [] j in_prefixes in_bits = absurd (omega arith)
part_at-parts_of (p ∷ prefixes) (b ∷ bits) zero in_prefixes in_bits = refl
part_at-parts_of (p ∷ prefixes) (b ∷ bits) (suc j) in_prefixes in_bits =
    part_at-parts_of prefixes bits j (omega arith) (omega arith)

-- a part holds at least one symbol, and none past 255
pub part_symbols : (p : Part) → IsPart p → (first_symbol p < end_symbol p) × (end_symbol p ≤ 256)
part_symbols p is =
    let place = 2 ^ (8 - p.bits) in
    let whole : p.bits + (8 - p.bits) ≡ 8 = omega (arith, is.eight_bits) in
    let all : 2 ^ p.bits * place ≡ 256 = sym (pow-add 2 p.bits (8 - p.bits))
    ∙ ap (λ k. 2 ^ k) whole in
    let top : (p.prefix + 1) * place ≤ 2 ^ p.bits * place
    = mul-le-mul_right place (omega (arith, is.prefix_fits)) in
    (omega (arith, pow_pos (8 - p.bits)), omega (arith, top, all))
