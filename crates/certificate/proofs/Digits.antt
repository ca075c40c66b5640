-- Digits: the number that they write, one digit after another, and how many stand at the front of a text.
use Rattle.std.proofs.Common.{◌≡◌, ℕ, zero, suc, ◌+◌, ◌-◌, ◌*◌, ◌^◌, ◌<◌, ◌≤◌, List, [], ◌∷◌, length, take, get_or, Bool, true, arith}
use Rattle.std.specs.List.{list_all}
use Rattle.std.specs.Char.{is_ascii_digit}
use Rattle.std.specs.Str.Parse.{digits_value}
use Rattle.std.proofs.lemmas.Bool.{and_parts}
use Rattle.std.proofs.lemmas.Bool.Decides.{nat_tests}
use Rattle.std.proofs.lemmas.Str.{digit_value_digit}
use Rattle.std.proofs.lemmas.Int.Digits.{digits_value_more}
use Rattle.std.proofs.lemmas.Str.Parse.{digits_value-take-le}

-- where each passes, the one at a place does
pub list_all_at : (p : ℕ → Bool) (xs : List ℕ) (i d : ℕ) → list_all p xs ≡ true → i < length xs → p (get_or xs i d) ≡ true
list_all_at p [] i d all below = absurd (omega arith)
list_all_at p (x ∷ xs) zero d all below = (and_parts (p x) (list_all p xs) all).0
list_all_at p (x ∷ xs) (suc i) d all below =
    list_all_at p xs i d (and_parts (p x) (list_all p xs) all).1 (omega arith)

-- a digit is a byte from 48 to 57
pub digit_range : (c : ℕ) → is_ascii_digit c ≡ true → (48 ≤ c) × (c ≤ 57)
digit_range c digit = (grind (arith, nat_tests), grind (arith, nat_tests))

-- one more digit
pub digits_step : (ds : List ℕ) (i n : ℕ) → list_all is_ascii_digit ds ≡ true → i < length ds
    → n ≡ digits_value 10 (take i ds) → digits_value 10 (take (i + 1) ds) ≡ n * 10 + (get_or ds i 0 - 48)
digits_step ds i n digits below before =
    let range = digit_range (get_or ds i 0) (list_all_at is_ascii_digit ds i 0 digits below) in
    let digit = digit_value_digit (get_or ds i 0) range in
    let more = digits_value_more 10 ds i below in
    omega arith

-- where the digits so far and one more are past 64 bits, so are all
pub digits_past : (ds : List ℕ) (i n : ℕ) → list_all is_ascii_digit ds ≡ true → i < length ds
    → n ≡ digits_value 10 (take i ds) → 2 ^ 64 ≤ n * 10 + (get_or ds i 0 - 48) → digits_value 10 ds < 2 ^ 64 → ⊥
digits_past ds i n digits below before past small =
    let step = digits_step ds i n digits below before in
    let front = digits_value-take-le 10 ds (i + 1) (omega arith) in
    absurd (omega arith)
