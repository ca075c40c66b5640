-- Sums of the values of a segment: one of l values of 16 bits lies from -32768 * l to 32767 * l
-- (`segment_sum_within`), and so does what was summed between two cut points (`sum_between_cuts`).
use Rattle.std.proofs.Common.{◌≡◌, ℕ, ◌+◌, ◌*◌, ◌<◌, ◌≤◌, ℤ, pos, neg_ℤ, ◌≤ℤ◌, arith, List, [], ◌∷◌, ◌++◌, length, drop, get_or, replicate, set, ap, ◌∙◌, subst, below_more}
use Rattle.std.specs.Prelude.{FitsSigned, slice_range}
use Rattle.std.specs.Int.{w16}
use Rattle.std.specs.List.{All}
use Rattle.std.proofs.lemmas.Int.{ints}
use Rattle.std.proofs.lemmas.List.{length-take-le, length-drop, get_or_append_left}
use Rattle.std.proofs.lemmas.List.FromFn.{length-map-range_with_len, get_or-map-range_with_len}
use Rattle.std.proofs.lemmas.List.Elements.{All-take, All-drop, All-head, All-tail}
use Rattle.segment_sums.specs.Division.{Division, IsDivision, cut_place, segment_length}
use Rattle.segment_sums.specs.Sum.{signed_sum, segment_values, segment_sum, segment_sums, NoSumBelow, NoSumAbove}
use Rattle.segment_sums.proofs.Filled.{filled, fill_next}
use Rattle.segment_sums.proofs.Places.{cut_place_inside}

-- a sum of values of 16 bits lies within the number of values times the least and the greatest
-- value
pub signed_sum_within : (xs : List ℤ) → All (FitsSigned w16) xs
    → (neg_ℤ (pos (32768 * length xs)) ≤ℤ signed_sum xs)
    × (signed_sum xs ≤ℤ pos (32767 * length xs))
signed_sum_within [] fit = (omega (arith, ints), omega (arith, ints))
signed_sum_within (x ∷ xs) fit =
    let here : FitsSigned w16 x = All-head (FitsSigned w16) x xs fit in
    let rest = signed_sum_within xs (All-tail (FitsSigned w16) x xs fit) in
    (omega (arith, ints, here, rest.0), omega (arith, ints, here, rest.1))

-- a segment holds as many values as it is long
pub length-segment_values : (d : Division) (row : List ℤ) (j : ℕ) → IsDivision d
    → length row ≡ d.row_length → j < d.segments
    → length (segment_values d row j) ≡ segment_length d j
length-segment_values d row j is whole used =
    let inside : cut_place d (j + 1) ≤ d.row_length = cut_place_inside d (j + 1) is (omega arith) in
    length-take-le (segment_length d j) (drop (cut_place d j) row)
    (omega (arith, length-drop (cut_place d j) row, inside))

-- the sum of a segment of length l lies from -32768 * l to 32767 * l
pub segment_sum_within : (d : Division) (row : List ℤ) (j : ℕ) → IsDivision d
    → length row ≡ d.row_length → All (FitsSigned w16) row → j < d.segments
    → (neg_ℤ (pos (32768 * segment_length d j)) ≤ℤ segment_sum d row j)
    × (segment_sum d row j ≤ℤ pos (32767 * segment_length d j))
segment_sum_within d row j is whole fit used =
    let values = segment_values d row j in
    let fits : All (FitsSigned w16) values =
    All-take (FitsSigned w16) (segment_length d j) _
    (All-drop (FitsSigned w16) (cut_place d j) row fit) in
    let long : length values ≡ segment_length d j = length-segment_values d row j is whole used in
    subst
    (λ n. (neg_ℤ (pos (32768 * n)) ≤ℤ segment_sum d row j)
    × (segment_sum d row j ≤ℤ pos (32767 * n)))
    long (signed_sum_within values fits)

-- what sums the values between two cut points is the sum of that segment, within its bounds
pub sum_between_cuts : (d : Division) (row : List ℤ) (j from to : ℕ) (sum : ℤ) → IsDivision d
    → length row ≡ d.row_length → j < d.segments
    → from ≡ cut_place d j → to ≡ cut_place d (j + 1)
    → sum ≡ signed_sum (slice_range row from to)
    → neg_ℤ (pos (32768 * length (slice_range row from to))) ≤ℤ sum
    → sum ≤ℤ pos (32767 * length (slice_range row from to))
    → (sum ≡ segment_sum d row j)
    × ((neg_ℤ (pos (32768 * segment_length d j)) ≤ℤ segment_sum d row j)
    × (segment_sum d row j ≤ℤ pos (32767 * segment_length d j)))
sum_between_cuts d row j from to sum is whole used first last summed not_low not_high =
    let values : slice_range row from to ≡ segment_values d row j
    = ap (λ a. slice_range row a to) first
    ∙ ap (λ b. slice_range row (cut_place d j) b) last in
    let value : sum ≡ segment_sum d row j = summed ∙ ap signed_sum values in
    let long : length (slice_range row from to) ≡ segment_length d j
    = ap (λ xs. length xs) values ∙ length-segment_values d row j is whole used in (
      value,
      (
        subst (λ z. neg_ℤ (pos (32768 * segment_length d j)) ≤ℤ z) value
            (subst (λ n. neg_ℤ (pos (32768 * n)) ≤ℤ sum) long not_low),
        subst (λ z. z ≤ℤ pos (32767 * segment_length d j)) value
            (subst (λ n. sum ≤ℤ pos (32767 * n)) long not_high),
      ),
    )

-- the sums of the first k segments, with zeros behind them up to n places, each sum within its bounds
pub record SumsTo (d : Division) (row : List ℤ) (n k : ℕ) (xs : List ℤ) : Type 0 where
  pub sums : xs ≡ filled (segment_sum d row) (pos 0) n k
  pub not_low : NoSumBelow d row k
  pub not_high : NoSumAbove d row k

-- one more sum in place of the first zero: what sums the values between the next two cut points
pub next_sum : (d : Division) (row : List ℤ) (j from to n : ℕ) (sum kept : ℤ) (sums : List ℤ) → IsDivision d
    → length row ≡ d.row_length → j < d.segments → j < n
    → from ≡ cut_place d j → to ≡ cut_place d (j + 1)
    → sum ≡ signed_sum (slice_range row from to)
    → neg_ℤ (pos (32768 * length (slice_range row from to))) ≤ℤ sum
    → sum ≤ℤ pos (32767 * length (slice_range row from to))
    → kept ≡ sum → SumsTo d row n j sums → SumsTo d row n (j + 1) (set sums j kept)
next_sum d row j from to n sum kept sums is whole used room first last summed not_low not_high same before =
    let sum_is = sum_between_cuts d row j from to sum is whole used first last summed not_low not_high in
    record {
      sums = fill_next (segment_sum d row) (pos 0) n j sums kept room before.sums (same ∙ sum_is.0);
      not_low = below_more _ _ before.not_low sum_is.1.0;
      not_high = below_more _ _ before.not_high sum_is.1.1;
    }

-- the sums of all segments with a padding behind them hold at each segment its sum
pub segment_sums_at : (d : Division) (row sums : List ℤ) (n j : ℕ)
    → sums ≡ segment_sums d row ++ replicate n (pos 0)
    → j < d.segments → get_or sums j (pos 0) ≡ segment_sum d row j
segment_sums_at d row sums n j are used =
    let long : length (segment_sums d row) ≡ d.segments
    = length-map-range_with_len (segment_sum d row) 0 d.segments in
    ap (λ l. get_or l j (pos 0)) are
    ∙ get_or_append_left (segment_sums d row) (replicate n (pos 0)) (pos 0) j (omega (arith, long))
    ∙ get_or-map-range_with_len (segment_sum d row) 0 d.segments j j (pos 0) used (omega arith)
