-- How far a query's sum lies outside the sums of a prefix, and what that costs. The symbols from a up to b, b left
-- out, stand for the sums from l * B_a to l * B_b - 1 of a segment of length l: open below where a is 0, and open
-- above where b is 256.
use Rattle.std.specs.Prelude.{ℕ, ℤ, pos, negsuc, ◌+◌, ◌-◌, ◌*◌, ◌/◌, ◌==◌, if◌then◌else◌, ◌-ℤ◌, ◌*ℤ◌, ◌≤ℤ◌, neg_ℤ, ◌≡◌, ◌<◌, ◌≤◌, List, length, slice_index, min, max}
use Rattle.breakpoints.specs.declared.table.Table.{Table}
use Rattle.breakpoints.specs.Breakpoint.{breakpoint}
use Rattle.isax_word.specs.declared.word.Part.{Part}
use Rattle.isax_word.specs.Word.{first_symbol, end_symbol, last_symbol}
use Rattle.search_limits.specs.declared.numbers.TheConstants.{RAISE}
use Rattle.series_core.specs.declared.rows.TheConstants.{MAX_LENGTH}

-- how far a whole number is above 0, and 0 where it is not above
abbrev pub excess : ℤ → ℕ
excess (pos n) = n
excess (negsuc n) = 0

-- how far a sum lies below the least sum of the symbols from first on; below symbol 0 there is no sum
abbrev pub gap_below : Table → ℕ → ℤ → ℕ → ℕ
gap_below table length sum first =
    if first == 0 then 0 else excess ((pos length *ℤ breakpoint table first) -ℤ sum)

-- how far a sum lies above the greatest sum of the symbols before end; above symbol 255 there is no sum
abbrev pub gap_above : Table → ℕ → ℤ → ℕ → ℕ
gap_above table length sum end =
    if end == 256 then 0 else excess (sum -ℤ ((pos length *ℤ breakpoint table end) -ℤ pos 1))

-- how far a sum lies outside the sums of the symbols from first up to end, end left out
abbrev pub gap : Table → ℕ → ℤ → ℕ → ℕ → ℕ
gap table length sum first end = gap_below table length sum first + gap_above table length sum end

-- the square of a gap by the length of the segment, rounded up
abbrev pub cost_of_gap : ℕ → ℕ → ℕ
cost_of_gap length gap = (gap * gap + (length - 1)) / length

-- the cost of a part for a segment of this length and sum
abbrev pub part_cost : Table → ℕ → ℤ → Part → ℕ
part_cost table length sum part = cost_of_gap length (gap table length sum (first_symbol part) (end_symbol part))

-- the cost of one symbol
abbrev pub symbol_cost : Table → ℕ → ℤ → ℕ → ℕ
symbol_cost table length sum symbol = cost_of_gap length (gap table length sum symbol (symbol + 1))

-- the symbol nearest to another among those whose first bits are a part's prefix
abbrev pub nearest_symbol : Part → ℕ → ℕ
nearest_symbol part symbol = max (first_symbol part) (min (last_symbol part) symbol)

-- the length of a segment and the sum of as many values of 16 bits
pub record IsSum (long : ℕ) (sum : ℤ) : Type 0 where
  pub some_values : 1 ≤ long
  pub few_values : long ≤ MAX_LENGTH
  pub not_low : neg_ℤ (pos (RAISE * long)) ≤ℤ sum
  pub not_high : sum ≤ℤ pos (32767 * long)

-- a list that holds at each symbol its cost
pub record HoldsCosts (table : Table) (long : ℕ) (sum : ℤ) (costs : List ℕ) : Type 0 where
  pub whole : length costs ≡ 256
  pub each : (s : ℕ) → s < 256 → slice_index costs s ≡ symbol_cost table long sum s
