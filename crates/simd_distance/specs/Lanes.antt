-- What a lane of the kernel holds: a difference of two values as 16 bits, and a square.
use Rattle.std.specs.Prelude.{ℕ, ◌*◌, ◌/◌, ◌%◌, ◌<◌, ℤ, ◌-ℤ◌, unsigned_abs, List, map}
use Rattle.std.specs.Int.{cast_unsigned}
use Rattle.std.specs.Simd.Lanes.{zip2, Each1}
use mir.Syntax.{w16}

-- how far two values are apart
abbrev pub difference : ℤ → ℤ → ℕ
difference a b = unsigned_abs (a -ℤ b)

-- the square of a number
abbrev pub square : ℕ → ℕ
square n = n * n

-- lanes of 16 bits, read as numbers without a sign
abbrev pub bits_of : List ℤ → List ℕ
bits_of lanes = map (cast_unsigned w16) lanes

-- the square of the low 15 bits of a number
abbrev pub square_of_low : ℕ → ℕ
square_of_low n = square (n % 32768)

-- the square of the half of a number, rounded down
abbrev pub square_of_half : ℕ → ℕ
square_of_half n = square (n / 2)

-- two lists of values differ by less than 32768 at each place, so that a square takes 30 bits
abbrev pub IsNear : List ℤ → List ℤ → Type 0
IsNear xs ys = Each1 (λ n. n < 32768) (zip2 difference xs ys)
