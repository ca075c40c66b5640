-- The lower bound of a series by its means. A mean m of a segment of length l, rounded down, stands for the sums from l * m
-- to l * m + l - 1. The gap is how far a query's sum lies outside of them, in whole lengths.
use Rattle.std.specs.Prelude.{ℕ, ℤ, ◌+◌, ◌-◌, ◌*◌, ◌/◌, ◌≤◌, min, max, List, map}
use Rattle.std.specs.Simd.Lanes.{zip2, sum_l}
use Rattle.segment_sums.specs.Division.{Division, segment_length}
use Rattle.mean_bound.specs.Means.{raised_sum, of_segments}
use Rattle.series_core.specs.declared.rows.TheConstants.{MAX_LENGTH}

-- what a bound by means needs of a query: the least length of a segment, and for each segment the least and the greatest
-- mean that have no gap
pub record View : Type 0 where
  pub least_length : ℕ
  pub lows : List ℕ
  pub highs : List ℕ

-- the least mean without a gap in segment j: for a lesser one, l * m + l - 1 lies below the query's sum by a length at least
abbrev pub low_mean : Division → List ℤ → ℕ → ℕ
low_mean d query j = (raised_sum d query j + 1) / segment_length d j - 1

-- the greatest mean without a gap in segment j: for a greater one, l * m lies above the query's sum by a length at least
abbrev pub high_mean : Division → List ℤ → ℕ → ℕ
high_mean d query j = (raised_sum d query j + (segment_length d j - 1)) / segment_length d j

-- the least length of a segment
abbrev pub least_length : Division → ℕ
least_length d = d.row_length / d.segments

-- the view of a query
abbrev pub mean_view_of : Division → List ℤ → View
mean_view_of d query = record {
  least_length = least_length d;
  lows = of_segments d (low_mean d query);
  highs = of_segments d (high_mean d query);
}

-- a view: no segment is longer than 65536
abbrev pub IsMeanView : View → Type 0
IsMeanView v = v.least_length ≤ MAX_LENGTH

-- how far what reaches from `leasts` to `greatests` lies below the lows or above the highs, and at most 16383
abbrev pub gaps_between : List ℕ → List ℕ → List ℕ → List ℕ → List ℕ
gaps_between lows highs leasts greatests =
    map (λ n. min n 16383) (zip2 max (zip2 (λ l m. l - m) lows greatests) (zip2 (λ m h. m - h) leasts highs))

-- how far means lie below the least or above the greatest, and at most 16383
abbrev pub gaps : List ℕ → List ℕ → List ℕ → List ℕ
gaps lows highs means = gaps_between lows highs means means

-- the square of a number
abbrev pub square : ℕ → ℕ
square n = n * n

-- the sum of the squares of the gaps
abbrev pub squared_gaps : List ℕ → List ℕ → List ℕ → ℕ
squared_gaps lows highs means = sum_l (map square (gaps lows highs means))

-- the lower bound of a series by its means
abbrev pub mean_bound : View → List ℕ → ℕ
mean_bound v means = v.least_length * squared_gaps v.lows v.highs means
