-- The next bits of all segments at once: a place value for each segment, and whether a symbol has the bit of that value.
use Rattle.std.specs.Prelude.{◌≡◌, ℕ, ◌-◌, ◌^◌, ◌<◌, ◌==◌, not, List, length, bit_and, slice_index, if◌then◌else◌}
use Rattle.isax_word.specs.declared.word.Part.{Part}
use Rattle.isax_word.specs.Word.{part_at}

-- 1 where a symbol has the bit of this place value, and else 0
abbrev pub has_bit : ℕ → ℕ → ℕ
has_bit symbol place = if not (bit_and symbol place == 0) then 1 else 0

-- in each segment of a word the place value of the bit of a symbol that follows those that the word has
abbrev pub AreNextPlaces : List Part → List ℕ → Type 0
AreNextPlaces word places = (j : ℕ) → j < length word → slice_index places j ≡ 2 ^ (7 - (part_at word j).bits)
