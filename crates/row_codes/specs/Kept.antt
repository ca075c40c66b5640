-- What the view of a query keeps beside the query: for each block the sum of its values and that of their squares, and the last block,
-- with zeros behind where it has fewer than 256 values.
use Rattle.std.specs.Prelude.{◌≡◌, ℕ, ℤ, pos, ◌+◌, ◌-◌, ◌*◌, ◌/◌, ◌≤◌, ◌+ℤ◌, ◌-ℤ◌, ◌*ℤ◌, List, [], ◌∷◌, ◌++◌, drop, length, map, replicate, take}
use Rattle.std.specs.List.{range_with_len}
use Rattle.std.specs.Simd.Lanes.{chunk}
use Rattle.row_codes.specs.Codes.{value_squares}
use Rattle.search_limits.specs.declared.numbers.TheConstants.{RAISE}
use Rattle.series_core.specs.declared.rows.TheConstants.{MAX_LENGTH}

-- the sum of some values
abbrev pub value_total : List ℤ → ℤ
value_total [] = pos 0
value_total (x ∷ xs) = x +ℤ value_total xs

-- the sum of a block's values, and that of their squares
pub record Sums : Type 0 where
  pub total : ℤ
  pub squares : ℕ

-- the values of block k of a query
abbrev pub values_at : List ℤ → ℕ → List ℤ
values_at query k = chunk (256 * k) 256 query

-- the sums of block k
abbrev pub sums_at : List ℤ → ℕ → Sums
sums_at query k = record { total = value_total (values_at query k); squares = value_squares (values_at query k) }

-- 256 values: zeros stand behind those that there are
abbrev pub filled : List ℤ → List ℤ
filled xs = xs ++ replicate (256 - length xs) (pos 0)

-- what a view keeps of a query
pub record IsCodeView (query last : List ℤ) (sums : List Sums) : Type 0 where
  pub limit : length query ≤ MAX_LENGTH
  pub behind : last ≡ filled (drop (256 * ((length query - 1) / 256)) query)
  pub places : length sums ≡ 256
  pub summed : take ((length query + 255) / 256) sums ≡ map (sums_at query) (range_with_len 0 ((length query + 255) / 256))

-- how far a query lies from what the codes of a block stand for, squared, of the least value, the step, the squares of what they stand for,
-- the sum of the products of codes and values, and the sums of the query's values
abbrev pub multiplied_out : ℕ → ℕ → ℕ → ℤ → Sums → ℤ
multiplied_out low step squares dot sums =
    (pos squares -ℤ (pos 2 *ℤ ((pos step *ℤ dot) +ℤ ((pos (low + step / 2) *ℤ sums.total) -ℤ (pos RAISE *ℤ sums.total)))))
    +ℤ pos sums.squares
