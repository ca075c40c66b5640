-- Words: for each segment the first bits of its symbol, and how many bits these are, from 1 to 8.
use Rattle.std.specs.Prelude.{ℕ, zero, suc, ◌≡◌, ◌+◌, ◌-◌, ◌*◌, ◌/◌, ◌%◌, ◌^◌, ◌<◌, ◌≤◌, ◌==◌, ◌&&◌, Bool, true, false, if◌then◌else◌, List, [], ◌∷◌, length, map, slice_index, slice_index_or, slice_set}
use Rattle.std.specs.List.{All}
use Rattle.isax_word.specs.declared.word.Part.{Part}
use Rattle.isax_word.specs.Padded.{padded}

-- a part keeps 1 to 8 bits, and its prefix has no more
pub record IsPart (part : Part) : Type 0 where
  pub some_bits : 1 ≤ part.bits
  pub eight_bits : part.bits ≤ 8
  pub prefix_fits : part.prefix < 2 ^ part.bits

-- a word has 1 to 16 parts, one for each segment
pub record IsWord (word : List Part) : Type 0 where
  pub some_parts : 1 ≤ length word
  pub few_parts : length word ≤ 16
  pub parts : All IsPart word

-- the part of no bits, which stands past the end of a word
abbrev pub no_part : Part
no_part = record { prefix = 0; bits = 0 }

-- the part of segment j of a word
abbrev pub part_at : List Part → ℕ → Part
part_at word j = slice_index_or word j no_part

-- the word of these prefixes and numbers of bits, one of each for each segment
abbrev pub parts_of : List ℕ → List ℕ → List Part
parts_of [] bits = []
parts_of (p ∷ prefixes) [] = []
parts_of (p ∷ prefixes) (b ∷ bits) = record { prefix = p; bits = b } ∷ parts_of prefixes bits

-- prefixes and numbers of bits that make a word
pub record MakeWord (prefixes bits : List ℕ) : Type 0 where
  pub same_length : length prefixes ≡ length bits
  pub is_word : IsWord (parts_of prefixes bits)

-- the first bits of a symbol, as a number
abbrev pub first_bits : ℕ → ℕ → ℕ
first_bits bits symbol = symbol / 2 ^ (8 - bits)

-- whether a part's prefix is the first bits of a symbol
abbrev pub part_contains : Part → ℕ → Bool
part_contains part symbol = first_bits part.bits symbol == part.prefix

-- whether in each segment the word's prefix is the first bits of the full word's symbol
abbrev pub word_contains : List Part → List ℕ → Bool
word_contains [] [] = true
word_contains [] (s ∷ symbols) = false
word_contains (p ∷ word) [] = false
word_contains (p ∷ word) (s ∷ symbols) = part_contains p s && word_contains word symbols

-- the least symbol whose first bits are a part's prefix
abbrev pub first_symbol : Part → ℕ
first_symbol part = part.prefix * 2 ^ (8 - part.bits)

-- the symbol behind the greatest one whose first bits are a part's prefix
abbrev pub end_symbol : Part → ℕ
end_symbol part = (part.prefix + 1) * 2 ^ (8 - part.bits)

-- the greatest symbol whose first bits are a part's prefix
abbrev pub last_symbol : Part → ℕ
last_symbol part = end_symbol part - 1

-- the least symbols of a word's parts, in 16 places
abbrev pub first_symbols : List Part → List ℕ
first_symbols word = padded 0 (map first_symbol word)

-- the greatest symbols of a word's parts, in 16 places
abbrev pub last_symbols : List Part → List ℕ
last_symbols word = padded 0 (map last_symbol word)

-- the part with one bit more: a 1 in the high child and a 0 in the low one
abbrev pub child_part : Part → Bool → Part
child_part part high = record { prefix = 2 * part.prefix + (if high then 1 else 0); bits = part.bits + 1 }

-- the word with one bit more in segment j
abbrev pub child_word : List Part → ℕ → Bool → List Part
child_word word j high = slice_set word j (child_part (part_at word j) high)

-- the bit of a symbol that follows its first bits
abbrev pub next_bit : ℕ → ℕ → ℕ
next_bit bits symbol = first_bits (bits + 1) symbol % 2

-- the bit of segment j's symbol that follows those that a word has
abbrev pub next_bit_at : List Part → List ℕ → ℕ → ℕ
next_bit_at word symbols j = next_bit (part_at word j).bits (slice_index symbols j)

-- the word of w parts of one bit that are the bits of a number below 2^w, the most significant first
abbrev pub one_bit_word : ℕ → ℕ → List Part
one_bit_word root zero = []
one_bit_word root (suc w) = record { prefix = root / 2 ^ w; bits = 1 } ∷ one_bit_word (root % 2 ^ w) w
