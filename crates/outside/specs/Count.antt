-- Counts of what went wrong: each is a counter of 64 bits that stops at its last value and never falls.
use Rattle.std.specs.Prelude.{ℕ, ◌+◌, ◌-◌, ◌^◌, ◌≤◌, min}
use Rattle.std.proofs.Common.{arith}

-- a counter's next value, and at the last value that value
abbrev pub next_count : ℕ → ℕ
next_count n = min (n + 1) (2 ^ 64 - 1)

-- a count rose: it grew, or stands at the last value of a counter
abbrev pub Rose : ℕ → ℕ → Type 0
Rose before now = next_count before ≤ now

-- a rise within a stretch is a rise over the stretch
pub Rose-wider : {first before now last : ℕ} → first ≤ before → Rose before now → now ≤ last
    → Rose first last
Rose-wider earlier rose later = omega arith
