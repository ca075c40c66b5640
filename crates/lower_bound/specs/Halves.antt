-- The bounds of one-bit words by halves: the last eight segments, or all where there are fewer, are the low half, and
-- the segments before them the high one.
use Rattle.std.specs.Prelude.{ℕ, ◌≡◌, ◌-◌, ◌^◌, ◌<◌, List, length, take, ℤ, slice_index}
use Rattle.isax_word.specs.declared.layout.Layout.{Layout}
use Rattle.isax_word.specs.Word.{one_bit_word}
use Rattle.lower_bound.specs.Gap.{part_cost}
use Rattle.lower_bound.specs.Bound.{View, sum_at, length_at, parts_bound}

-- the view of a query whose segments' sums stand at the head of a list
abbrev pub view_with : Layout → List ℤ → View
view_with layout sums = record { layout = layout; sums = take layout.cuts.segments sums }

-- the cost of one bit as the part of segment j
abbrev pub bit_cost : View → ℕ → ℕ → ℕ
bit_cost view j bit =
    part_cost view.layout.table (length_at view j) (sum_at view j) (record { prefix = bit; bits = 1 })

-- how many of w segments stand in the high half
abbrev pub high_segments : ℕ → ℕ
high_segments w = w - 8

-- how many of w segments stand in the low half
abbrev pub low_segments : ℕ → ℕ
low_segments w = w - high_segments w

-- a list that holds at each number of `count` bits the bound of its bits, of which the first is that of segment `first`
pub record HoldsBounds (view : View) (first count : ℕ) (bounds : List ℕ) : Type 0 where
  pub whole : length bounds ≡ 256
  pub each : (x : ℕ) → x < 2 ^ count → slice_index bounds x ≡ parts_bound view first (one_bit_word x count)

-- the bounds of the high half and those of the low half
pub record HoldsHalves (view : View) (high low : List ℕ) : Type 0 where
  pub in_high : HoldsBounds view 0 (high_segments view.layout.cuts.segments) high
  pub in_low : HoldsBounds view (high_segments view.layout.cuts.segments) (low_segments view.layout.cuts.segments) low
