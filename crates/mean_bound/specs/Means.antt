-- The means of the segments of a row. Values are raised by 32768, so that no sum and no mean is below 0.
use Rattle.std.specs.Prelude.{◌≡◌, ℕ, ℤ, pos, ◌+ℤ◌, ◌-◌, ◌*◌, ◌/◌, ◌<◌, ◌≤◌, List, ◌++◌, map, replicate, unsigned_abs}
use Rattle.std.specs.List.{range_with_len}
use Rattle.segment_sums.specs.Division.{Division, segment_length}
use Rattle.segment_sums.specs.Sum.{segment_sum}
use Rattle.search_limits.specs.declared.numbers.TheConstants.{RAISE}

-- the sum of the values of segment j, each raised by 32768
abbrev pub raised_sum : Division → List ℤ → ℕ → ℕ
raised_sum d row j = unsigned_abs (segment_sum d row j +ℤ pos (RAISE * segment_length d j))

-- the mean of the raised values of segment j, rounded down
abbrev pub segment_mean : Division → List ℤ → ℕ → ℕ
segment_mean d row j = raised_sum d row j / segment_length d j

-- a number for each segment, and 0 from there to 16 of them
abbrev pub of_segments : Division → (ℕ → ℕ) → List ℕ
of_segments d f = map f (range_with_len 0 d.segments) ++ replicate (16 - d.segments) 0

-- the means of all segments of a row
abbrev pub row_means : Division → List ℤ → List ℕ
row_means d row = of_segments d (segment_mean d row)

-- the raised sum of each of the first k segments is at most 65535 times its length
abbrev pub NoRaisedSumAbove : Division → List ℤ → ℕ → Type 0
NoRaisedSumAbove d row k = (j : ℕ) → j < k → raised_sum d row j ≤ 65535 * segment_length d j

-- the raised sums of the segments of a row, none of which is too high, and their means
pub record AreMeans (d : Division) (row : List ℤ) (sums means : List ℕ) : Type 0 where
  pub summed : sums ≡ of_segments d (raised_sum d row)
  pub divided : means ≡ row_means d row
  pub limit : NoRaisedSumAbove d row d.segments
