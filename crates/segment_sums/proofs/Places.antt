-- The cut points of a division: they rise from 0 to the length of the row, by at least 1 each
-- (`cut_place_rises`). Where all segments have one length they are its multiples (`equal_places`,
-- `equal_lengths`).
use Rattle.std.proofs.Common.{◌≡◌, ◌∙◌, ap, ℕ, suc, ◌+◌, ◌*◌, ◌/◌, ◌<◌, ◌≤◌, arith, List, length, get_or}
use Rattle.std.proofs.lemmas.List.FromFn.{get_or-map-range_with_len, fill_by_all}
use Rattle.std.proofs.lemmas.Nat.{le-div}
use Rattle.std.proofs.Math.Nat.{div-mul-le_self, mul-le-mul_right, mul-div_cancel_left}
use Rattle.segment_sums.specs.Division.{Division, IsDivision, cut_place, cut_places, segment_length}

-- the stored place of number j is the cut point
pub cut_places_at : (d : Division) (j : ℕ) → j < 17 → get_or (cut_places d) j 0 ≡ cut_place d j
unfolding cut_places
cut_places_at d j inside = get_or-map-range_with_len (cut_place d) 0 17 j j 0 inside (omega arith)

-- a list that holds each cut point at its number is the list of them
pub cut_places_from : (d : Division) (starts : List ℕ) → length starts ≡ 17
    → ((j : ℕ) → j < 17 → get_or starts j 0 ≡ cut_place d j) → starts ≡ cut_places d
unfolding cut_places
cut_places_from d starts whole each = fill_by_all (cut_place d) starts 17 0 whole each

-- the first cut point is 0
pub cut_place_first : (d : Division) → cut_place d 0 ≡ 0
cut_place_first d = omega (arith, div-mul-le_self (0 * d.row_length) d.segments)

-- a quotient by a number that is not 0 rises with what is divided
pub quotient_rises : (m n w : ℕ) → 0 < w → m ≤ n → m / w ≤ n / w
quotient_rises m n w some below =
    le-div (m / w) n w some (omega (arith, div-mul-le_self m w))

-- cut points rise by at least one place from each segment to the next
pub cut_place_rises : (d : Division) (j : ℕ) → IsDivision d → cut_place d j < cut_place d (j + 1)
cut_place_rises d j is =
    let floor : j * d.row_length / d.segments * d.segments ≤ j * d.row_length
    = div-mul-le_self (j * d.row_length) d.segments in
    le-div (suc (cut_place d j)) ((j + 1) * d.row_length) d.segments is.some_segments
    (omega (arith, floor, is.no_empty_segment))

-- cut points rise with their numbers
pub cut_place_ascends : (d : Division) (i j : ℕ) → IsDivision d → i ≤ j
    → cut_place d i ≤ cut_place d j
cut_place_ascends d i j is before =
    quotient_rises (i * d.row_length) (j * d.row_length) d.segments is.some_segments
    (mul-le-mul_right d.row_length before)

-- the last cut point is the length of the row
pub cut_place_last : (d : Division) → IsDivision d → cut_place d d.segments ≡ d.row_length
cut_place_last d is = mul-div_cancel_left d.row_length is.some_segments

-- no cut point in use lies past the row
pub cut_place_inside : (d : Division) (j : ℕ) → IsDivision d → j ≤ d.segments
    → cut_place d j ≤ d.row_length
cut_place_inside d j is used =
    omega (arith, cut_place_ascends d j d.segments is used, cut_place_last d is)

-- the cut points of segments of one length l
pub equal_places : (d : Division) (w l j : ℕ) → 1 ≤ w → d.segments ≡ w → d.row_length ≡ w * l → cut_place d j ≡ j * l
equal_places d w l j some count long =
    let turned : j * (w * l) ≡ w * (j * l) = omega arith in
    ap (λ n. j * n / d.segments) long
    ∙ ap (λ n. j * (w * l) / n) count
    ∙ ap (λ n. n / w) turned
    ∙ mul-div_cancel_left (j * l) some

-- the segments between these cut points are of length l
pub equal_lengths : (d : Division) (w l j : ℕ) → 1 ≤ w → d.segments ≡ w → d.row_length ≡ w * l → segment_length d j ≡ l
equal_lengths d w l j some count long =
    let from = equal_places d w l j some count long in
    let to = equal_places d w l (j + 1) some count long in
    omega (arith, from, to)
