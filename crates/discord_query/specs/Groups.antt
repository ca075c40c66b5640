-- Groups of series: what a worker draws at a time.
use Rattle.std.specs.Prelude.{◌≡◌, ℕ, ◌*◌, ◌/◌, ◌<◌}

-- the number of the group of series s, where each group but the last has `size` series in a row
abbrev pub group_of : ℕ → ℕ → ℕ
group_of size s = s / size

-- series s is of group g
abbrev pub IsOfGroup : ℕ → ℕ → ℕ → Type 0
IsOfGroup size g s = group_of size s ≡ g

-- each of `count` series is of one of so many groups, and each of these has a first series
pub record IsCut (size count groups : ℕ) : Type 0 where
  pub whole : (s : ℕ) → s < count → group_of size s < groups
  pub real : (g : ℕ) → g < groups → g * size < count
