-- The symbol of a segment: how many breakpoints, times the segment's length, are at or below its sum.
use Rattle.std.specs.Prelude.{◌≡◌, ℕ, ℤ, pos, neg_ℤ, ◌*◌, ◌/◌, ◌<◌, ◌≤◌, ◌+ℤ◌, ◌-ℤ◌, ◌*ℤ◌, ◌≤ℤ◌, Bool, List, int_le, count_by, slice_index_or, unsigned_abs}
use Rattle.std.specs.List.{range_with_len}
use Rattle.search_limits.specs.declared.numbers.TheConstants.{RAISE}
use Rattle.segment_sums.specs.Division.{Division, segment_length}
use Rattle.breakpoints.specs.declared.table.Table.{Table}
use Rattle.breakpoints.specs.Breakpoint.{breakpoint}

-- whether breakpoint i, times the length, is at or below the sum
abbrev pub is_reached : Table → ℕ → ℤ → ℕ → Bool
is_reached table length sum i = int_le (pos length *ℤ breakpoint table i) sum

-- the number of the 255 breakpoints of a table which, times the length, are at or below the sum
unfoldable pub symbol_of : Table → ℕ → ℤ → ℕ
symbol_of table length sum = count_by (is_reached table length sum) (range_with_len 1 255)

-- the mean of a segment of this length and sum, rounded down: raised by 32768 so that nothing lies below 0, and lowered again
abbrev pub mean_of : ℕ → ℤ → ℤ
mean_of length sum = pos (unsigned_abs (sum +ℤ pos (RAISE * length)) / length) -ℤ pos RAISE

-- a sum of as many values of 16 bits
pub record IsSum (length : ℕ) (sum : ℤ) : Type 0 where
  pub not_low : neg_ℤ (pos (RAISE * length)) ≤ℤ sum
  pub not_high : sum ≤ℤ pos (32767 * length)

-- a sum of each segment, and 0 in the places behind them
pub record AreSumsOf (d : Division) (sums : List ℤ) : Type 0 where
  pub each : (j : ℕ) → j < d.segments → IsSum (segment_length d j) (slice_index_or sums j (pos 0))
  pub behind : (j : ℕ) → d.segments ≤ j → j < 16 → slice_index_or sums j (pos 0) ≡ pos 0

-- the mean of each segment, rounded down
abbrev pub AreMeansOf : Division → List ℤ → List ℤ → Type 0
AreMeansOf d sums means = (j : ℕ) → j < d.segments
    → slice_index_or means j (pos 0) ≡ mean_of (segment_length d j) (slice_index_or sums j (pos 0))
