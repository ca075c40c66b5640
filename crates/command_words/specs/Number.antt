-- How a number is spelled on a command line: with no sign, leading zero, space or separator.
use Rattle.std.specs.Prelude.{ℕ, Bool, false, List, [], ◌∷◌, length, Option, Some, None}
use Rattle.std.specs.Prelude.{◌==◌, ◌&&◌, if◌then◌else◌, nat_le}
use Rattle.std.specs.Char.{is_ascii_digit}
use Rattle.std.specs.List.{list_all}
use Rattle.std.specs.Str.Parse.{digits_value}

-- whether the text is `0` (byte 48), or a digit 1 to 9 followed by digits
abbrev pub is_well_spelled : List ℕ → Bool
is_well_spelled [] = false
is_well_spelled (c ∷ cs) = if c == 48 then length cs == 0 else list_all is_ascii_digit (c ∷ cs)

-- the number that the text spells, where it spells one well and that lies from `least` to `most`
abbrev pub number_within : ℕ → ℕ → List ℕ → Option ℕ
number_within least most text =
    let n = digits_value 10 text in
    if is_well_spelled text && (nat_le least n && nat_le n most) then Some n else None
