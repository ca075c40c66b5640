-- A part of a word put in front of a text, digit by digit.
use Rattle.std.proofs.Common.{◌≡◌, ℕ, ◌+◌, ◌^◌, ◌<◌, ◌≤◌, List, [], ◌∷◌, ◌++◌, length, sym, ap, ◌∙◌, arith, append_assoc, length-append}
use Rattle.std.specs.Prelude.{decimal}
use Rattle.std.proofs.lemmas.Fmt.{decimal_digit, length-decimal-le}
use Rattle.isax_word.specs.declared.word.Part.{Part}
use Rattle.certificate.specs.Spelling.{part_text}

-- the text of a part of this prefix and these bits
of_numbers : (old : List ℕ) (prefix bits : ℕ) (part : Part) → prefix ≡ part.prefix → bits ≡ part.bits
    → 44 ∷ ((decimal prefix ++ 58 ∷ decimal bits) ++ old) ≡ 44 ∷ (part_text part ++ old)
of_numbers old prefix bits part p b =
    ap (λ n. 44 ∷ ((decimal n ++ 58 ∷ decimal bits) ++ old)) p
    ∙ ap (λ n. 44 ∷ ((decimal part.prefix ++ 58 ∷ decimal n) ++ old)) b

-- a prefix of one digit
pub short_part : (old next : List ℕ) (prefix bits : ℕ) (part : Part) → prefix < 10 → bits < 10
    → prefix ≡ part.prefix → bits ≡ part.bits
    → next ≡ (44 ∷ (48 + prefix) ∷ 58 ∷ (48 + bits) ∷ []) ++ old → next ≡ 44 ∷ (part_text part ++ old)
short_part old next prefix bits part low few p b put =
    put
    ∙ ap (λ (t : List ℕ). 44 ∷ ((t ++ 58 ∷ (48 + bits) ∷ []) ++ old)) (sym (decimal_digit prefix low))
    ∙ ap (λ (t : List ℕ). 44 ∷ ((decimal prefix ++ 58 ∷ t) ++ old)) (sym (decimal_digit bits few))
    ∙ of_numbers old prefix bits part p b

-- any prefix
pub long_part : (old first second next : List ℕ) (prefix bits : ℕ) (part : Part) → bits < 10
    → prefix ≡ part.prefix → bits ≡ part.bits
    → first ≡ (58 ∷ (48 + bits) ∷ []) ++ old → second ≡ decimal prefix ++ first → next ≡ (44 ∷ []) ++ second
    → next ≡ 44 ∷ (part_text part ++ old)
long_part old first second next prefix bits part few p b put_bits put_prefix put_comma =
    put_comma
    ∙ ap (λ (t : List ℕ). 44 ∷ t)
    (put_prefix
    ∙ ap (λ (t : List ℕ). decimal prefix ++ t)
    (put_bits ∙ ap (λ (t : List ℕ). 58 ∷ (t ++ old)) (sym (decimal_digit bits few)))
    ∙ sym (append_assoc (decimal prefix) (58 ∷ decimal bits) old))
    ∙ of_numbers old prefix bits part p b

-- it takes at most six bytes
pub long_room : (old first second next : List ℕ) (prefix bits : ℕ) → prefix < 2 ^ 8
    → first ≡ (58 ∷ (48 + bits) ∷ []) ++ old → second ≡ decimal prefix ++ first → next ≡ (44 ∷ []) ++ second
    → length next ≤ length old + 8
long_room old first second next prefix bits fits put_bits put_prefix put_comma =
    let digits = length-decimal-le 3 prefix (omega arith) (omega arith) (omega arith) in
    let one = ap length put_bits in
    let two = ap length put_prefix ∙ length-append (decimal prefix) first in
    let three = ap length put_comma in
    omega arith
