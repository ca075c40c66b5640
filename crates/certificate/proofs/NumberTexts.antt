-- Numbers: what is read is how a number is spelled, and what is spelled so is read, where no digit follows.
use Rattle.std.proofs.Common.{rules, ◌≡◌, ℕ, zero, suc, ◌+◌, ◌^◌, ◌<◌, ◌≤◌, List, [], ◌∷◌, ◌++◌, length, take, drop, take-append-drop, get_or, Bool, true, false, Some, None, refl, sym, ap, subst, ◌∙◌, ⊎_elim, arith}
use Rattle.std.specs.Prelude.{decimal, ◌==◌, ◌&&◌, nat_le}
use Rattle.std.specs.List.{list_all, prefix_len}
use Rattle.std.specs.Char.{is_ascii_digit}
use Rattle.std.specs.Str.Parse.{digits_value}
use Rattle.std.proofs.lemmas.Bool.{cases_Bool, and_parts, and_from, cond-true, cond-false, leb-true, eqb-true, eq-eqb, ne_eqb}
use Rattle.std.proofs.lemmas.List.{take_at, drop_at}
use Rattle.std.proofs.lemmas.Option.{same_Some, none-some}
use Rattle.std.proofs.lemmas.Str.Parse.{IsNumeralModel, numerals_by_value}
use Rattle.std.proofs.lemmas.Fmt.{decimal-digits_value, digits_decimal, digits_value-decimal, decimal_digit, first_decimal, decimal_nonempty}
use Rattle.certificate.specs.Fields.{number_at, is_spelled}
use Rattle.certificate.proofs.Numbers.{size_of, front_of, number_some}

-- a text of digits is a numeral of its decimal value
pub own : IsNumeralModel (λ ds. list_all is_ascii_digit ds ≡ true) (digits_value 10)
own = numerals_by_value _ (search rules)

-- no digit stands at the front
abbrev pub Stops : List ℕ → Type 0
Stops [] = Unit {0}
Stops (c ∷ text) = is_ascii_digit c ≡ false

-- the digits at the front are digits
front_digits : (p : ℕ → Bool) (text : List ℕ) → list_all p (take (prefix_len p text) text) ≡ true
front_digits p [] = refl
front_digits p (c ∷ text) =
    ⊎_elim
    (λ (yes : p c ≡ true).
    let size : prefix_len p (c ∷ text) ≡ 1 + prefix_len p text = cond-true (p c) (1 + prefix_len p text) 0 yes in
    let next : 1 + prefix_len p text ≡ suc (prefix_len p text) = omega arith in
    ap (λ n. list_all p (take n (c ∷ text))) (size ∙ next) ∙ and_from _ _ yes (front_digits p text))
    (λ (no : p c ≡ false).
    ap (λ n. list_all p (take n (c ∷ text))) (cond-false (p c) (1 + prefix_len p text) 0 no))
    (cases_Bool (p c))

-- all that passes before what does not is the front
front_size : (text rest : List ℕ) → list_all is_ascii_digit text ≡ true → Stops rest
    → prefix_len is_ascii_digit (text ++ rest) ≡ length text
front_size [] [] digits stops = refl
front_size [] (c ∷ rest) digits stops = cond-false (is_ascii_digit c) (1 + prefix_len is_ascii_digit rest) 0 stops
front_size (c ∷ text) rest digits stops =
    let parts = and_parts (is_ascii_digit c) (list_all is_ascii_digit text) digits in
    let more = front_size text rest parts.1 stops in
    let size : prefix_len is_ascii_digit ((c ∷ text) ++ rest) ≡ 1 + prefix_len is_ascii_digit (text ++ rest) =
    cond-true (is_ascii_digit c) (1 + prefix_len is_ascii_digit (text ++ rest)) 0 parts.0 in
    omega arith

-- digits that are spelled well: there is one, and a first 0 stands alone
spelled_parts : (ds : List ℕ) → is_spelled ds ≡ true → (0 < length ds) × (get_or ds 0 0 ≡ 48 → length ds ≡ 1)
spelled_parts [] e = absurd cc
spelled_parts (d ∷ ds) e = (omega arith, alone)
  where
    alone : d ≡ 48 → length (d ∷ ds) ≡ 1
    alone is =
        let last : (length ds == 0) ≡ true = sym (cond-true (d == 48) (length ds == 0) true (eq-eqb d 48 is)) ∙ e in
        let none : length ds ≡ 0 = eqb-true (length ds) 0 last in
        omega arith

-- digits of which the first is above 0 are spelled well
spelled_from : (ds : List ℕ) → 0 < length ds → 48 < get_or ds 0 0 → is_spelled ds ≡ true
spelled_from [] some first = absurd (omega arith)
spelled_from (d ∷ ds) some first =
    let other : (d == 48) ≡ false = ne_eqb d 48 (λ e. absurd (omega arith)) in
    cond-false (d == 48) (length ds == 0) true other

-- a number is spelled well
spelled_decimal : (n : ℕ) → n < 2 ^ 64 → is_spelled (decimal n) ≡ true
spelled_decimal zero small = ap is_spelled (decimal_digit 0 (omega arith))
spelled_decimal (suc n) small = spelled_from (decimal (suc n)) (decimal_nonempty (suc n) small) (first_decimal (suc n) (omega arith) small)

-- what is read is how the number is spelled
pub number_takes : (most : ℕ) (text rest : List ℕ) (n : ℕ) → most < 2 ^ 64 → number_at most text ≡ Some (n, rest)
    → (text ≡ decimal n ++ rest) × (n ≤ most)
unfolding number_at
number_takes most text rest n small read =
    ⊎_elim
    (λ (yes : test ≡ true).
    let parts = and_parts (is_spelled (front_of text)) (nat_le (digits_value 10 (front_of text)) most) yes in
    let spelled = spelled_parts (front_of text) parts.0 in
    let within : digits_value 10 (front_of text) ≤ most = leb-true _ _ parts.1 in
    let same : found ≡ (n, rest) = same_Some found (n, rest) (sym (cond-true test (Some found) None yes) ∙ read) in
    let front : decimal (digits_value 10 (front_of text)) ≡ front_of text =
    decimal-digits_value own (front_of text) (front_digits is_ascii_digit text) spelled.0 spelled.1 (omega arith) in
    subst (λ (x : ℕ × List ℕ). (text ≡ decimal x.0 ++ x.1) × (x.0 ≤ most)) same
    (sym (take-append-drop (size_of text) text) ∙ ap (λ (ds : List ℕ). ds ++ drop (size_of text) text) (sym front), within))
    (λ (no : test ≡ false). absurd (none-some (n, rest) (sym (cond-false test (Some found) None no) ∙ read)))
    (cases_Bool test)
  where
    test : Bool
    test = is_spelled (front_of text) && nat_le (digits_value 10 (front_of text)) most

    found : ℕ × List ℕ
    found = (digits_value 10 (front_of text), drop (size_of text) text)

-- a number that is spelled is read
pub number_again : (most n : ℕ) (rest : List ℕ) → most < 2 ^ 64 → n ≤ most → Stops rest
    → number_at most (decimal n ++ rest) ≡ Some (n, rest)
number_again most n rest small within stops =
    number_some most text (ap is_spelled front ∙ spelled_decimal n fits) (let v = value in omega arith)
    ∙ ap (λ v. Some (v, drop (size_of text) text)) value
    ∙ ap (λ r. Some (n, r)) behind
  where
    text : List ℕ
    text = decimal n ++ rest

    fits : n < 2 ^ 64
    fits = omega arith

    size : size_of text ≡ length (decimal n)
    size = front_size (decimal n) rest (digits_decimal own n fits) stops

    front : front_of text ≡ decimal n
    front = take_at (decimal n) rest (size_of text) (sym size)

    behind : drop (size_of text) text ≡ rest
    behind = drop_at (decimal n) rest (size_of text) (sym size)

    value : digits_value 10 (front_of text) ≡ n
    value = ap (digits_value 10) front ∙ digits_value-decimal own n fits
