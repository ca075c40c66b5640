-- The law of bounds by means: the bound is at most the distance (`mean_bound_below`).
use Rattle.std.proofs.Common.{◌≡◌, ℕ, zero, suc, ◌+◌, ◌-◌, ◌*◌, ◌/◌, ◌<◌, ◌≤◌, arith, refl, sym, subst, ◌∙◌, ◌⊎◌, inl, inr, ℤ, pos, neg_ℤ, ◌+ℤ◌, ◌-ℤ◌, ◌≤ℤ◌, List, ◌++◌, length, drop, map, replicate}
use Rattle.std.specs.Prelude.{unsigned_abs, FitsSigned, max, min}
use Rattle.std.specs.Int.{w16}
use Rattle.std.specs.List.{All, range_with_len}
use Rattle.std.proofs.lemmas.Int.{ints}
use Rattle.std.proofs.lemmas.Bool.{cases_lt}
use Rattle.std.proofs.lemmas.Nat.{mul-le, le-div}
use Rattle.std.proofs.Math.Nat.{div-mul-le_self, le_of_mul-le-mul_left, lt-div-mul-add, mul-sub}
use Rattle.series_core.specs.Distance.{squared_distance}
use Rattle.segment_sums.specs.Division.{Division, IsDivision, cut_place, segment_length}
use Rattle.segment_sums.specs.Sum.{segment_values, segment_sum}
use Rattle.segment_sums.proofs.Places.{cut_place_first, cut_place_rises}
use Rattle.segment_sums.proofs.Sums.{length-segment_values, segment_sum_within}
use Rattle.lower_bound.proofs.Bounds.{rest_splits}
use Rattle.lower_bound.proofs.Distances.{difference_of_sums}
use Rattle.mean_bound.specs.Means.{raised_sum, segment_mean, row_means}
use Rattle.mean_bound.specs.MeanBound.{low_mean, high_mean, least_length, squared_gaps, mean_bound, mean_view_of}

-- a length times how far a mean lies below the least is at most how far the sum does
below_gap : (l x q : ℕ) → 1 ≤ l → l * ((q + 1) / l - 1 - x / l) ≤ q - x
below_gap l x q some =
    by_parts (x / l) ((q + 1) / l) (mul-sub l ((q + 1) / l - 1) (x / l)) (mul-sub l ((q + 1) / l) 1) (lt-div-mul-add some)
    (div-mul-le_self (q + 1) l)
  where
    by_parts : (m n : ℕ) → l * (n - 1 - m) ≡ l * (n - 1) - l * m → l * (n - 1) ≡ l * n - l * 1 → x < m * l + l → n * l ≤ q + 1
        → l * (n - 1 - m) ≤ q - x
    by_parts m n gap last low high = omega (arith, gap, last, low, high)

-- and so for one that lies above the greatest
above_gap : (l x q : ℕ) → 1 ≤ l → l * (x / l - (q + (l - 1)) / l) ≤ x - q
above_gap l x q some =
    by_parts (x / l) ((q + (l - 1)) / l) (mul-sub l (x / l) ((q + (l - 1)) / l)) (lt-div-mul-add some) (div-mul-le_self x l)
  where
    by_parts : (m h : ℕ) → l * (m - h) ≡ l * m - l * h → q + (l - 1) < h * l + l → m * l ≤ x → l * (m - h) ≤ x - q
    by_parts m h gap low high = omega (arith, gap, low, high, some)

-- raised sums are as far from each other as the sums
pub as_far : (x q : ℤ) (s a b : ℕ) → neg_ℤ (pos s) ≤ℤ x → neg_ℤ (pos s) ≤ℤ q
    → a ≤ unsigned_abs (q +ℤ pos s) - unsigned_abs (x +ℤ pos s)
    → b ≤ unsigned_abs (x +ℤ pos s) - unsigned_abs (q +ℤ pos s)
    → max a b ≤ unsigned_abs (x -ℤ q)
as_far x q s a b low_x low_q far_a far_b = omega (arith, ints, low_x, low_q, far_a, far_b)

-- what is at most a length times a distance, where it is that length squared times a square, bounds the square by the
-- distance
cancelled : (l g d : ℕ) → 1 ≤ l → (l * g) * (l * g) ≤ l * d → l * (g * g) ≤ d
cancelled l g d some below =
    let same : l * (l * (g * g)) ≤ l * d = omega (arith, below) in
    le_of_mul-le-mul_left same some

-- the least length is at most that of each segment
pub least_is_least : (d : Division) (j : ℕ) → IsDivision d → least_length d ≤ segment_length d j
least_is_least d j is =
    let first = div-mul-le_self (j * d.row_length) d.segments in
    let one = div-mul-le_self d.row_length d.segments in
    let both : cut_place d j + least_length d ≤ cut_place d (j + 1)
    = le-div (cut_place d j + least_length d) ((j + 1) * d.row_length) d.segments is.some_segments
    (omega (arith, first, one)) in
    omega (arith, both)

-- the gap of segment j
abbrev pub gap_at : Division → List ℤ → List ℤ → ℕ → ℕ
gap_at d x q j =
    min (max (low_mean d q j - segment_mean d x j) (segment_mean d x j - high_mean d q j)) 16383

-- a gap whose length is at most how far the sums of a segment lie apart, squared, times the least length
pub square_below : (d : Division) (x q : List ℤ) (j gap : ℕ) → IsDivision d → length x ≡ d.row_length
    → length q ≡ d.row_length → j < d.segments
    → segment_length d j * gap ≤ unsigned_abs (segment_sum d x j -ℤ segment_sum d q j)
    → least_length d * (gap * gap) ≤ squared_distance (segment_values d x j) (segment_values d q j)
square_below d x q j gap is whole_x whole_q used far =
    let l = segment_length d j in
    let some : 1 ≤ l = omega (arith, cut_place_rises d j is) in
    let long_x = length-segment_values d x j is whole_x used in
    let same : length (segment_values d x j) ≡ length (segment_values d q j)
    = long_x ∙ sym (length-segment_values d q j is whole_q used) in
    let near = squared_distance (segment_values d x j) (segment_values d q j) in
    let square = subst (λ n. (l * gap) * (l * gap) ≤ n * near) long_x
    (difference_of_sums (l * gap) (segment_values d x j) (segment_values d q j) same far) in
    let own = cancelled l gap near some square in
    let least = mul-le (least_length d) (gap * gap) l (gap * gap) (least_is_least d j is) (omega arith) in
    omega (arith, own, least)

-- the least length times the square of a gap is at most the distance of the segments
segment_below : (d : Division) (x q : List ℤ) (j : ℕ) → IsDivision d → length x ≡ d.row_length
    → length q ≡ d.row_length → All (FitsSigned w16) x → All (FitsSigned w16) q → j < d.segments
    → least_length d * (gap_at d x q j * gap_at d x q j)
    ≤ squared_distance (segment_values d x j) (segment_values d q j)
segment_below d x q j is whole_x whole_q fit_x fit_q used =
    let l = segment_length d j in
    let some : 1 ≤ l = omega (arith, cut_place_rises d j is) in
    let low_x = (segment_sum_within d x j is whole_x fit_x used).0 in
    let low_q = (segment_sum_within d q j is whole_q fit_q used).0 in
    let far = unsigned_abs (segment_sum d x j -ℤ segment_sum d q j) in
    let both
    = as_far (segment_sum d x j) (segment_sum d q j) (32768 * l) _ _ low_x low_q
    (below_gap l (raised_sum d x j) (raised_sum d q j) some) (above_gap l (raised_sum d x j) (raised_sum d q j) some) in
    square_below d x q j (gap_at d x q j) is whole_x whole_q used (under l _ _ far (cases_lt _ _) both)
  where
    under : (l a b far : ℕ) → (a < b) ⊎ (b ≤ a) → max (l * a) (l * b) ≤ far → l * min (max a b) 16383 ≤ far
    under l a b far (inl less) both = omega (arith, mul-le l (min (max a b) 16383) l b (omega arith) (omega (arith, less)), both)
    under l a b far (inr most) both = omega (arith, mul-le l (min (max a b) 16383) l a (omega arith) (omega (arith, most)), both)

-- where there is no segment there is no gap
none_behind : (n : ℕ) → squared_gaps (replicate n 0) (replicate n 0) (replicate n 0) ≡ 0
none_behind zero = refl
none_behind (suc n) = omega (arith, none_behind n)

-- the gaps of the segments from one on, with zeros behind
abbrev pub gaps_from : Division → List ℤ → List ℤ → ℕ → ℕ → ℕ → ℕ
gaps_from d x q n j k =
    squared_gaps (map (low_mean d q) (range_with_len j k) ++ replicate n 0)
    (map (high_mean d q) (range_with_len j k) ++ replicate n 0)
    (map (segment_mean d x) (range_with_len j k) ++ replicate n 0)

-- the least length times their squares is at most the distance of what is left of the rows from there
from_segment : (d : Division) (x q : List ℤ) (n j k : ℕ) → IsDivision d → length x ≡ d.row_length
    → length q ≡ d.row_length → All (FitsSigned w16) x → All (FitsSigned w16) q → j + k ≡ d.segments
    → least_length d * gaps_from d x q n j k ≤ squared_distance (drop (cut_place d j) x) (drop (cut_place d j) q)
from_segment d x q n j zero is whole_x whole_q fit_x fit_q end =
    subst (λ s. least_length d * s ≤ squared_distance (drop (cut_place d j) x) (drop (cut_place d j) q))
    (sym (none_behind n)) (omega arith)
from_segment d x q n j (suc k) is whole_x whole_q fit_x fit_q end =
    let used : j < d.segments = omega (arith, end) in
    let here = segment_below d x q j is whole_x whole_q fit_x fit_q used in
    let behind = from_segment d x q n (j + 1) k is whole_x whole_q fit_x fit_q (omega (arith, end)) in
    both (least_length d) (gap_at d x q j * gap_at d x q j) (gaps_from d x q n (j + 1) k) _ _ _ here behind
    (rest_splits d x q j is whole_x whole_q used)
  where
    -- the bounds of two parts add up
    both : (l a b e f g : ℕ) → l * a ≤ e → l * b ≤ f → g ≡ e + f → l * (a + b) ≤ g
    both l a b e f g one two sum = omega (arith, one, two, sum)

-- the bound of a series by its means is at most its distance
pub mean_bound_below : (d : Division) (x q : List ℤ) → IsDivision d → length x ≡ d.row_length
    → length q ≡ d.row_length → All (FitsSigned w16) x → All (FitsSigned w16) q
    → mean_bound (mean_view_of d q) (row_means d x) ≤ squared_distance x q
mean_bound_below d x q is whole_x whole_q fit_x fit_q =
    subst (λ k. mean_bound (mean_view_of d q) (row_means d x) ≤ squared_distance (drop k x) (drop k q))
    (cut_place_first d)
    (from_segment d x q (16 - d.segments) 0 d.segments is whole_x whole_q fit_x fit_q (omega arith))
