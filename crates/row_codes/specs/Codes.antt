-- Codes of values: from the least value of a block to the greatest lie 16 equal steps at most, and what is kept of a value is the number of
-- its step, from 0 to 15. A code stands for the middle of its step, rounded down. Values are counted from the least of 16 bits.
use Rattle.std.specs.Prelude.{ℕ, ℤ, pos, ◌+◌, ◌-◌, ◌*◌, ◌/◌, ◌%◌, ◌+ℤ◌, ◌-ℤ◌, List, [], ◌∷◌, ◌++◌, map, max, min, slice_index, unsigned_abs}
use Rattle.std.specs.List.{range_with_len}
use Rattle.row_codes.specs.Roots.{square}
use Rattle.search_limits.specs.declared.numbers.TheConstants.{RAISE}

-- a value, counted from the least that there is
abbrev pub raised : ℤ → ℕ
raised x = unsigned_abs (x +ℤ pos RAISE)

-- the least of some values, so counted
abbrev pub least : List ℤ → ℕ
least [] = 65535
least (x ∷ xs) = min (raised x) (least xs)

-- and the greatest
abbrev pub greatest : List ℤ → ℕ
greatest [] = 0
greatest (x ∷ xs) = max (raised x) (greatest xs)

-- the least step of which 16 reach from the least of some values to the greatest
abbrev pub step_of : List ℤ → ℕ
step_of xs = (greatest xs - least xs) / 16 + 1

-- the code of a value: how many steps lie between the least value and it
abbrev pub code_of : ℕ → ℕ → ℤ → ℕ
code_of low step x = (raised x - low) / step

-- what a code stands for
abbrev pub picture_of : ℕ → ℕ → ℕ → ℤ
picture_of low step c = pos (low + step * c + step / 2) -ℤ pos RAISE

-- what codes stand for
abbrev pub pictured : ℕ → ℕ → List ℕ → List ℤ
pictured low step cs = map (picture_of low step) cs

-- the squares of some values, added up
abbrev pub value_squares : List ℤ → ℕ
value_squares [] = 0
value_squares (x ∷ xs) = square (unsigned_abs x) + value_squares xs

-- the codes that words of 16 bits hold, four each: first those in the lowest bits of all words, then the next ones up
abbrev pub codes_of : List ℕ → List ℕ
codes_of ws =
    ((map (λ w. w % 16) ws ++ map (λ w. w / 16 % 16) ws) ++ map (λ w. w / 256 % 16) ws) ++ map (λ w. w / 4096 % 16) ws

-- word j of those that hold 256 codes
abbrev pub word_of : List ℕ → ℕ → ℕ
word_of cs j =
    slice_index cs j + 16 * slice_index cs (64 + j) + 256 * slice_index cs (128 + j) + 4096 * slice_index cs (192 + j)

-- the 64 words that hold 256 codes
abbrev pub packed : List ℕ → List ℕ
packed cs = map (word_of cs) (range_with_len 0 64)
