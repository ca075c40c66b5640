-- A well spelled text is one that `parse` reads as its decimal value.
use Rattle.std.proofs.Common.{◌≡◌, ◌<◌, ◌^◌, ℕ, true, false, List, [], ◌∷◌, length}
use Rattle.std.proofs.Common.{Some, None, refl, arith, nat_eq, rules}
use Rattle.std.specs.Prelude.{slice_get}
use Rattle.std.specs.Char.{is_ascii_digit}
use Rattle.std.specs.List.{list_all}
use Rattle.std.specs.Str.Parse.{digits_value}
use Rattle.std.proofs.lemmas.Str.Parse.{IsNumeralModel, numerals_by_value}
use Rattle.std.proofs.lemmas.Grind.{common_steps}
use Rattle.command_words.specs.Number.{is_well_spelled, number_within}

-- a text of digits is a numeral of its decimal value
pub own : IsNumeralModel (λ ds. list_all is_ascii_digit ds ≡ true) (digits_value 10)
own = numerals_by_value _ (search rules)

-- a text that does not begin with 0 is spelled by its digits
pub spelled_as_digits : (t : List ℕ) (c : ℕ) → slice_get t 0 ≡ Some c → (c ≡ 48 → ⊥)
    → list_all is_ascii_digit t ≡ is_well_spelled t
spelled_as_digits [] c is other = absurd (cc)
spelled_as_digits (x ∷ xs) c is other =
    let same : x ≡ c = cc in
    let test : nat_eq x 48 ≡ false = rw same (grind (arith, common_steps)) in
    rw test refl

-- a well spelled text is one of digits, and has at least one
pub spelled_digits : (t : List ℕ) → is_well_spelled t ≡ true
    → (list_all is_ascii_digit t ≡ true) × (0 < length t)
spelled_digits [] e = absurd (cc)
spelled_digits (c ∷ cs) e = (grind (arith, common_steps), omega arith)

-- past 64 bits there is no number
pub none_past : (least most : ℕ) (t : List ℕ) → most < 2 ^ 64 → (digits_value 10 t < 2 ^ 64 → ⊥)
    → None ≡ number_within least most t
none_past least most t small past = grind (arith, common_steps)
