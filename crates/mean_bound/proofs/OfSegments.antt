-- Numbers of segments with zeros behind them hold at each segment its number (`at_segment`), and what follows for the sum of a segment
-- that is raised (`sum_between`, `raised_is`, `sum_fits`), and for its means (`at_length`, `mean_told`).
use Rattle.std.proofs.Common.{◌≡◌, ℕ, ◌+◌, ◌-◌, ◌*◌, ◌/◌, ◌<◌, ◌≤◌, ℤ, pos, List, ap, refl, sym, ◌∙◌, arith, get_or, map, replicate, length}
use Rattle.std.specs.Prelude.{neg_ℤ, ◌+ℤ◌, ◌≤ℤ◌, unsigned_abs}
use Rattle.std.specs.List.{range_with_len}
use Rattle.std.proofs.lemmas.Int.{ints}
use Rattle.std.proofs.lemmas.List.{get_or_append_left}
use Rattle.std.proofs.lemmas.List.FromFn.{length-map-range_with_len, get_or-map-range_with_len}
use Rattle.segment_sums.specs.Division.{Division, cut_place, segment_length}
use Rattle.segment_sums.specs.Sum.{segment_sum, NoSumBelow, NoSumAbove}
use Rattle.mean_bound.specs.Means.{of_segments, raised_sum, segment_mean, AreMeans, NoRaisedSumAbove}

-- the number of a segment
pub at_segment : (d : Division) (f : ℕ → ℕ) (xs : List ℕ) (j : ℕ) → xs ≡ of_segments d f → j < d.segments
    → get_or xs j 0 ≡ f j
at_segment d f xs j are used =
    let long : length (map f (range_with_len 0 d.segments)) ≡ d.segments
    = length-map-range_with_len f 0 d.segments in
    ap (λ l. get_or l j 0) are
    ∙ get_or_append_left (map f (range_with_len 0 d.segments)) (replicate (16 - d.segments) 0) 0 j (omega (arith, long))
    ∙ get_or-map-range_with_len f 0 d.segments j j 0 used (omega arith)

-- a segment lies between its cut points
pub length_between : (d : Division) (j from to : ℕ) → from ≡ cut_place d j → to ≡ cut_place d (j + 1) → segment_length d j ≡ to - from
length_between d j from to first last =
    sym (ap (λ a. to - a) first ∙ ap (λ b. b - cut_place d j) last)

-- the sum of a segment of length l lies within what l values can make
pub sum_between : (d : Division) (row : List ℤ) (j l : ℕ) (sum : ℤ) → sum ≡ segment_sum d row j → segment_length d j ≡ l
    → NoSumBelow d row d.segments → NoSumAbove d row d.segments → j < d.segments
    → (neg_ℤ (pos (32768 * l)) ≤ℤ sum) × (sum ≤ℤ pos (32767 * l))
sum_between d row j l sum is long low high used =
    let below = low j used in
    let above = high j used in
    (omega (arith, ints, is, long, below), omega (arith, ints, is, long, above))

-- raised for each value, it is the raised sum
pub raised_is : (d : Division) (row : List ℤ) (j l got : ℕ) (sum : ℤ) → sum ≡ segment_sum d row j → segment_length d j ≡ l
    → got ≡ unsigned_abs (sum +ℤ pos (32768 * l)) → got ≤ 65535 * l
    → (got ≡ raised_sum d row j) × (raised_sum d row j ≤ 65535 * segment_length d j)
raised_is d row j l got sum is long value limit =
    let own : got ≡ raised_sum d row j
    = value ∙ ap (λ s. unsigned_abs (s +ℤ pos (32768 * l))) is
    ∙ ap (λ n. unsigned_abs (segment_sum d row j +ℤ pos (32768 * n))) (sym long) in
    (own, omega (arith, own, long, limit))

-- and the raised sum of a segment of length l is not too high
pub sum_fits : (d : Division) (row : List ℤ) (sums : List ℕ) (j l : ℕ) → sums ≡ of_segments d (raised_sum d row)
    → NoRaisedSumAbove d row d.segments → j < d.segments → segment_length d j ≡ l → get_or sums j 0 ≤ 65535 * l
sum_fits d row sums j l are limit used long =
    let here = limit j used in
    omega (arith, at_segment d (raised_sum d row) sums j are used, here, long)

-- what is made of the raised sum that stands at a segment and of the length is that of the segment
pub at_length : (h : ℕ → ℕ → ℕ) (d : Division) (row : List ℤ) (sums : List ℕ) (j l got : ℕ) → sums ≡ of_segments d (raised_sum d row)
    → j < d.segments → segment_length d j ≡ l → got ≡ h (get_or sums j 0) l → got ≡ h (raised_sum d row j) (segment_length d j)
at_length h d row sums j l got are used long value =
    value ∙ (λ i. h (at_segment d (raised_sum d row) sums j are used i) (sym long i))

-- the mean that stands at a segment is the sum there, divided by the length
pub mean_told : (d : Division) (row : List ℤ) (sums means : List ℕ) (j l : ℕ) → AreMeans d row sums means → j < d.segments
    → segment_length d j ≡ l → get_or means j 0 ≡ get_or sums j 0 / l
mean_told d row sums means j l are used long =
    at_segment d (segment_mean d row) means j are.divided used
    ∙ sym (at_length (λ s n. s / n) d row sums j l _ are.summed used long refl)
