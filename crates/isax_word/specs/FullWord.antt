-- Full words: the symbols of a series, one of eight bits for each segment, and the root number that their
-- first bits make.
use Rattle.std.specs.Prelude.{ℕ, ℤ, ◌+◌, ◌*◌, ◌/◌, ◌^◌, ◌<◌, ◌≤◌, List, [], ◌∷◌, length, map}
use Rattle.std.specs.List.{All, range_with_len}
use Rattle.segment_sums.specs.Division.{segment_length}
use Rattle.segment_sums.specs.Sum.{segment_sum}
use Rattle.isax_word.specs.declared.layout.Layout.{Layout}
use Rattle.isax_word.specs.Symbol.{symbol_of}

-- the symbol of segment j of a row
abbrev pub segment_symbol : Layout → List ℤ → ℕ → ℕ
segment_symbol layout row j =
    symbol_of layout.table (segment_length layout.cuts j) (segment_sum layout.cuts row j)

-- the full word of a row: the symbols of all its segments, in order
abbrev pub full_word : Layout → List ℤ → List ℕ
full_word layout row = map (segment_symbol layout row) (range_with_len 0 layout.cuts.segments)

-- a full word has 1 to 16 symbols, each below 256
pub record IsFullWord (symbols : List ℕ) : Type 0 where
  pub some_symbols : 1 ≤ length symbols
  pub few_symbols : length symbols ≤ 16
  pub eight_bits : All (λ s. s < 256) symbols

-- the first of the eight bits of a symbol
abbrev pub first_bit : ℕ → ℕ
first_bit symbol = symbol / 128

-- the number whose bits are the first bits of the symbols, the first symbol's the most significant
abbrev pub root_number : List ℕ → ℕ
root_number [] = 0
root_number (s ∷ symbols) = first_bit s * 2 ^ length symbols + root_number symbols
