-- The squared Euclidean distance of two series, and how far two numbers are apart.
use Rattle.std.specs.Prelude.{ℕ, ◌+◌, ◌-◌, ◌*◌, ℤ, ◌-ℤ◌, List, [], ◌∷◌, unsigned_abs}

-- the square of the difference of two values
abbrev pub squared_difference : ℤ → ℤ → ℕ
squared_difference x y = unsigned_abs (x -ℤ y) * unsigned_abs (x -ℤ y)

-- the sum of the squared differences, place by place
abbrev pub squared_distance : List ℤ → List ℤ → ℕ
squared_distance [] ys = 0
squared_distance (x ∷ xs) [] = 0
squared_distance (x ∷ xs) (y ∷ ys) = squared_difference x y + squared_distance xs ys

-- how far two numbers are apart
abbrev pub apart : ℕ → ℕ → ℕ
apart a b = (a - b) + (b - a)
