-- How a series is divided into segments: segment j of w over a series of length n holds the places
-- from j * n / w up to (j + 1) * n / w, both rounded down, the second left out.
use Rattle.std.specs.Prelude.{ℕ, ◌+◌, ◌-◌, ◌*◌, ◌/◌, ◌≤◌, List, map}
use Rattle.std.specs.List.{range_with_len}

-- a division of a series: the series' length and the number of its segments
pub record Division : Type 0 where
  pub row_length : ℕ
  pub segments : ℕ

-- the division of a series of length n into w segments
abbrev pub division_of : ℕ → ℕ → Division
division_of n w = record { row_length = n; segments = w }

-- a division within the limits: 1 to 16 segments, none of them empty, over at most 65536 values
pub record IsDivision (d : Division) : Type 0 where
  pub some_segments : 1 ≤ d.segments
  pub few_segments : d.segments ≤ 16
  pub no_empty_segment : d.segments ≤ d.row_length
  pub short_row : d.row_length ≤ 65536

-- the place where segment j begins, which is where the segment before it ends
abbrev pub cut_place : Division → ℕ → ℕ
cut_place d j = j * d.row_length / d.segments

-- the length of segment j
abbrev pub segment_length : Division → ℕ → ℕ
segment_length d j = cut_place d (j + 1) - cut_place d j

-- the places where segments 0 to 16 would begin, of which those up to the number of segments are in use
unfoldable pub cut_places : Division → List ℕ
cut_places d = map (cut_place d) (range_with_len 0 17)
