-- Roots of numbers, rounded down and up.
use Rattle.std.specs.Prelude.{ℕ, zero, suc, ◌+◌, ◌*◌, cond, leb}

-- the square of a number
abbrev pub square : ℕ → ℕ
square n = n * n

-- how many of the numbers from 1 to k have a square of at most n
abbrev pub roots : ℕ → ℕ → ℕ
roots n zero = 0
roots n (suc k) = roots n k + cond (leb (square (suc k)) n) 1 0

-- the root of a number, rounded down
unfoldable pub root : ℕ → ℕ
root n = roots n n

-- the root of a number, rounded up: the least number whose square is as great as that number
abbrev pub root_up : ℕ → ℕ
root_up zero = 0
root_up (suc n) = suc (root n)
