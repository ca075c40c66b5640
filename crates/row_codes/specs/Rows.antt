-- Codes of whole rows: a row is cut into blocks of 256 values, and each block has a least value and a step of its own. What the codes forget
-- of the row is told by one length that grows from block to block.
use Rattle.std.specs.Prelude.{ℕ, ℤ, zero, suc, ◌+◌, ◌-◌, ◌*◌, ◌/◌, List, [], ◌∷◌, ◌++◌, drop, length, map, replicate, take}
use Rattle.series_core.specs.Distance.{squared_distance}
use Rattle.row_codes.specs.Roots.{root_up}
use Rattle.row_codes.specs.Codes.{code_of, least, packed, pictured, step_of, value_squares}

-- what is kept of a block: its codes in 64 words, the step, the least value, counted from the least of 16 bits, twice how long what is
-- forgotten up to its end is, and the squares of what its codes stand for, added up
pub record Block : Type 0 where
  pub words : List ℕ
  pub step : ℕ
  pub low : ℕ
  pub rest : ℕ
  pub squares : ℕ

-- how many blocks a row of length n has: one for each 256 values and one for what is left
abbrev pub block_count : ℕ → ℕ
block_count n = (n + 255) / 256

-- the codes of the values of a block
abbrev pub value_codes : List ℤ → List ℕ
value_codes xs = map (code_of (least xs) (step_of xs)) xs

-- those of a whole block: where it has fewer than 256 values, zeros stand in the other places
abbrev pub block_codes : List ℤ → List ℕ
block_codes xs = value_codes xs ++ replicate (256 - length xs) 0

-- what they stand for
abbrev pub pictures : List ℤ → List ℤ
pictures xs = pictured (least xs) (step_of xs) (value_codes xs)

-- what the codes of a block forget: how far its values lie from what the codes stand for, squared
abbrev pub forgotten : List ℤ → ℕ
forgotten xs = squared_distance xs (pictures xs)

-- what is kept of a block, where so much is forgotten before it
abbrev pub block_of : ℕ → List ℤ → Block
block_of before xs = record {
  words = packed (block_codes xs);
  step = step_of xs;
  low = least xs;
  rest = root_up (4 * (before + forgotten xs));
  squares = value_squares (pictures xs);
}

-- what is kept of so many blocks
abbrev pub blocks_of : ℕ → ℕ → List ℤ → List Block
blocks_of zero before xs = []
blocks_of (suc k) before xs =
    block_of before (take 256 xs) ∷ blocks_of k (before + forgotten (take 256 xs)) (drop 256 xs)

-- the codes of a row
abbrev pub row_codes : List ℤ → List Block
row_codes xs = blocks_of (block_count (length xs)) 0 xs
