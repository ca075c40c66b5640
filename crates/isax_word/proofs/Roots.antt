-- Root numbers and one-bit words correspond one to one (`one_bit_word_apart`, `one_bit_word_each`): a full word is
-- contained in the one-bit word of its root number (`root_contains_own`) and in no other (`root_contains_one`).
use Rattle.std.proofs.Common.{◌≡◌, ℕ, zero, suc, ◌+◌, ◌-◌, ◌*◌, ◌/◌, ◌%◌, ◌^◌, ◌<◌, ◌≤◌, true, arith, refl, sym, ap, subst, ◌∙◌, List, [], ◌∷◌, length, drop, get_or}
use Rattle.std.specs.List.{All}
use Rattle.std.proofs.lemmas.Bool.{and_parts, and_from, eqb-true, eq-eqb}
use Rattle.std.proofs.lemmas.List.{at_drop_more, length-drop}
use Rattle.std.proofs.lemmas.List.Elements.{All-head, All-tail, All-nil, All-cons}
use Rattle.std.proofs.lemmas.Nat.{pow_pos, pow-add, shr_high, mod_low, shr_split, div_below, mod_below, mul-le}
use Rattle.isax_word.specs.FullWord.{first_bit, root_number}
use Rattle.isax_word.specs.declared.word.Part.{Part}
use Rattle.isax_word.specs.Word.{IsPart, IsWord, part_at, word_contains, one_bit_word}

-- a symbol of eight bits
abbrev pub IsByte : ℕ → Type 0
IsByte s = s < 256

-- the first bit of a symbol is 0 or 1
pub first_bit-lt : (s : ℕ) → s < 256 → first_bit s < 2
first_bit-lt s small = div_below s 128 2 (omega arith) (omega arith)

-- a power of two doubles with its exponent
pub pow_doubles : (n : ℕ) → 2 ^ suc n ≡ 2 * 2 ^ n
pow_doubles n = let one : suc n ≡ 1 + n = omega arith in ap (λ k. 2 ^ k) one ∙ pow-add 2 1 n

-- a root number has as many bits as there are symbols
pub root_number-lt : (symbols : List ℕ) → All IsByte symbols
    → root_number symbols < 2 ^ length symbols
root_number-lt [] bytes = omega arith
root_number-lt (s ∷ symbols) bytes =
    let bit : first_bit s < 2 = first_bit-lt s (All-head IsByte s symbols bytes) in
    let rest : root_number symbols < 2 ^ length symbols
    = root_number-lt symbols (All-tail IsByte s symbols bytes) in
    let high : first_bit s * 2 ^ length symbols ≤ 1 * 2 ^ length symbols
    = mul-le (first_bit s) (2 ^ length symbols) 1 (2 ^ length symbols) (omega arith) (omega arith) in
    omega (arith, pow_doubles (length symbols))

-- a full word is contained in the one-bit word of its root number
pub root_contains_own : (symbols : List ℕ) → All IsByte symbols
    → word_contains (one_bit_word (root_number symbols) (length symbols)) symbols ≡ true
root_contains_own [] bytes = refl
root_contains_own (s ∷ symbols) bytes =
    let tail = All-tail IsByte s symbols bytes in
    let rest : root_number symbols < 2 ^ length symbols = root_number-lt symbols tail in
    let high : root_number (s ∷ symbols) / 2 ^ length symbols ≡ first_bit s
    = shr_high (first_bit s) (length symbols) (root_number symbols) rest in
    let low : root_number (s ∷ symbols) % 2 ^ length symbols ≡ root_number symbols
    = mod_low (first_bit s) (length symbols) (root_number symbols) rest in
    and_from _ _ (eq-eqb (s / 128) (root_number (s ∷ symbols) / 2 ^ length symbols) (sym high))
    (ap (λ r. word_contains (one_bit_word r (length symbols)) symbols) low
    ∙ root_contains_own symbols tail)

-- a full word is contained in the one-bit word of no other number
pub root_contains_one : (root : ℕ) (symbols : List ℕ) → root < 2 ^ length symbols
    → word_contains (one_bit_word root (length symbols)) symbols ≡ true → root ≡ root_number symbols
root_contains_one root [] small contained = omega arith
root_contains_one root (s ∷ symbols) small contained =
    let place = 2 ^ length symbols in
    let parts = and_parts _ _ contained in
    let high : s / 128 ≡ root / place = eqb-true (s / 128) (root / place) parts.0 in
    let low : root % place ≡ root_number symbols
    = root_contains_one (root % place) symbols (mod_below root place (pow_pos (length symbols))) parts.1 in
    let whole : root / place * place + root % place ≡ root = shr_split root (length symbols) in
    sym whole ∙ ap (λ b. b * place + root % place) (sym high) ∙ ap (λ r. s / 128 * place + r) low

-- the parts of a one-bit word are parts of one bit
pub one_bit_word_parts : (root w : ℕ) → root < 2 ^ w → All IsPart (one_bit_word root w)
one_bit_word_parts root zero small = All-nil IsPart
one_bit_word_parts root (suc w) small =
    All-cons IsPart _ _
    (record {
      some_bits = omega arith;
      eight_bits = omega arith;
      prefix_fits = div_below root (2 ^ w) 2 (pow_pos w) (omega (arith, pow_doubles w));
    })
    (one_bit_word_parts (root % 2 ^ w) w (mod_below root (2 ^ w) (pow_pos w)))

-- a one-bit word has as many parts as it is asked for
pub length-one_bit_word : (root w : ℕ) → length (one_bit_word root w) ≡ w
length-one_bit_word root zero = refl
length-one_bit_word root (suc w) = ap (λ n. suc n) (length-one_bit_word (root % 2 ^ w) w)

-- the one-bit word of a number of as many bits is a word
pub IsWord-one_bit_word : (root w : ℕ) → 1 ≤ w → w ≤ 16 → root < 2 ^ w
    → IsWord (one_bit_word root w)
IsWord-one_bit_word root w some few small =
    let long : length (one_bit_word root w) ≡ w = length-one_bit_word root w in
    record {
      some_parts = omega (arith, long);
      few_parts = omega (arith, long);
      parts = one_bit_word_parts root w small;
    }

-- numbers of as many bits that have the same one-bit word are the same
pub one_bit_word_apart : (root other w : ℕ) → root < 2 ^ w → other < 2 ^ w
    → one_bit_word root w ≡ one_bit_word other w → root ≡ other
one_bit_word_apart root other zero small less same = omega arith
one_bit_word_apart root other (suc w) small less same =
    let place = 2 ^ w in
    let high : root / place ≡ other / place = ap (λ word. (part_at word 0).prefix) same in
    let low : root % place ≡ other % place
    = one_bit_word_apart (root % place) (other % place) w (mod_below root place (pow_pos w))
    (mod_below other place (pow_pos w)) (ap (λ word. drop 1 word) same) in
    sym (shr_split root w)
    ∙ ap (λ b. b * place + root % place) high
    ∙ ap (λ r. other / place * place + r) low
    ∙ shr_split other w

-- a word of one bit a segment is the one-bit word of a number of as many bits
pub one_bit_word_each : (word : List Part) → All IsPart word → All (λ p. p.bits ≡ 1) word
    → (root : ℕ) × (root < 2 ^ length word) × (one_bit_word root (length word) ≡ word)
one_bit_word_each [] parts one = (0, omega arith, refl)
one_bit_word_each (p ∷ word) parts one =
    let OneBit = λ (q : Part). q.bits ≡ 1 in
    let w = length word in
    let rest = one_bit_word_each word (All-tail IsPart p word parts) (All-tail OneBit p word one) in
    let own : p.bits ≡ 1 = All-head OneBit p word one in
    let bit : p.prefix < 2
    = subst (λ b. p.prefix < 2 ^ b) own (All-head IsPart p word parts).prefix_fits in
    let most : p.prefix * 2 ^ w ≤ 1 * 2 ^ w
    = mul-le p.prefix (2 ^ w) 1 (2 ^ w) (omega arith) (omega arith) in
    let root = p.prefix * 2 ^ w + rest.0 in
    let high : root / 2 ^ w ≡ p.prefix = shr_high p.prefix w rest.0 rest.1 in
    let low : root % 2 ^ w ≡ rest.0 = mod_low p.prefix w rest.0 rest.1 in (
      root,
      omega (arith, pow_doubles w, rest.1),
      ap (λ x. record { prefix = x; bits = 1 } ∷ one_bit_word (root % 2 ^ w) w) high
          ∙ ap (λ r. record { prefix = p.prefix; bits = 1 } ∷ one_bit_word r w) low
          ∙ ap (λ ps. record { prefix = p.prefix; bits = 1 } ∷ ps) rest.2
          ∙ ap (λ b. record { prefix = p.prefix; bits = b } ∷ word) (sym own),
    )

-- reading one symbol more moves its first bit from the rest into the number read so far
pub root_next : (symbols : List ℕ) (root j whole : ℕ) → j < length symbols
    → root * 2 ^ (length symbols - j) + root_number (drop j symbols) ≡ whole
    → (2 * root + first_bit (get_or symbols j 0)) * 2 ^ (length symbols - (j + 1)) + root_number
    (drop (j + 1) symbols)
    ≡ whole
root_next symbols root j whole inside so =
    let s = get_or symbols j 0 in
    let rest = drop (j + 1) symbols in
    let place = 2 ^ (length symbols - (j + 1)) in
    let long : length rest ≡ length symbols - (j + 1) = length-drop (j + 1) symbols in
    let one_less : length symbols - j ≡ suc (length symbols - (j + 1)) = omega arith in
    let twice : 2 ^ (length symbols - j) ≡ 2 * place = ap (λ k. 2 ^ k) one_less ∙ pow_doubles _ in
    let opened : root_number (drop j symbols) ≡ first_bit s * 2 ^ length rest + root_number rest
    = at_drop_more root_number symbols j 0 inside in
    let scaled : root * 2 ^ (length symbols - j) ≡ root * (2 * place) = ap (λ n. root * n) twice in
    let bit : first_bit s * 2 ^ length rest ≡ first_bit s * place
    = ap (λ k. first_bit s * 2 ^ k) long in
    omega (arith, so, opened, scaled, bit)
