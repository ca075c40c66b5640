-- Sums of signed values: of a list, and of the part of a row that a segment holds.
use Rattle.std.specs.Prelude.{ℕ, ℤ, pos, ◌+◌, ◌<◌, ◌*◌, ◌+ℤ◌, neg_ℤ, ◌≤ℤ◌, List, [], ◌∷◌, map, slice_range}
use Rattle.std.specs.List.{range_with_len}
use Rattle.segment_sums.specs.Division.{Division, cut_place, segment_length}
use Rattle.search_limits.specs.declared.numbers.TheConstants.{RAISE}

-- the sum of a list of signed numbers
abbrev pub signed_sum : List ℤ → ℤ
signed_sum [] = pos 0
signed_sum (x ∷ xs) = x +ℤ signed_sum xs

-- the values of a row that segment j holds
abbrev pub segment_values : Division → List ℤ → ℕ → List ℤ
segment_values d row j = slice_range row (cut_place d j) (cut_place d (j + 1))

-- the sum of the values that segment j holds
abbrev pub segment_sum : Division → List ℤ → ℕ → ℤ
segment_sum d row j = signed_sum (segment_values d row j)

-- the sums of all segments of a row, in order
abbrev pub segment_sums : Division → List ℤ → List ℤ
segment_sums d row = map (segment_sum d row) (range_with_len 0 d.segments)

-- the sum of each of the first k segments is at least -32768 times its length
abbrev pub NoSumBelow : Division → List ℤ → ℕ → Type 0
NoSumBelow d row k = (j : ℕ) → j < k → neg_ℤ (pos (RAISE * segment_length d j)) ≤ℤ segment_sum d row j

-- the sum of each of the first k segments is at most 32767 times its length
abbrev pub NoSumAbove : Division → List ℤ → ℕ → Type 0
NoSumAbove d row k = (j : ℕ) → j < k → segment_sum d row j ≤ℤ pos (32767 * segment_length d j)
