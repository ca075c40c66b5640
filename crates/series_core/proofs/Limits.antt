-- How far apart two series of 16-bit values can be: below NONE by far.
use Rattle.std.proofs.Common.{◌*◌, ◌≤◌, List, [], ◌∷◌, length, arith}
use Rattle.std.specs.Prelude.{ℤ, ◌-ℤ◌, FitsSigned, unsigned_abs}
use Rattle.std.specs.List.{All}
use Rattle.std.proofs.lemmas.Int.{ints}
use Rattle.std.proofs.lemmas.List.Elements.{All-head, All-tail}
use Rattle.std.proofs.Math.Nat.{suc-mul, mul-le-mul}
use mir.Syntax.{w16}
use Rattle.series_core.specs.Distance.{squared_difference, squared_distance}

-- two 16-bit values differ by at most 65535
difference_limit : (x y : ℤ) → FitsSigned w16 x → FitsSigned w16 y → unsigned_abs (x -ℤ y) ≤ 65535
difference_limit x y fx fy = omega (arith, ints)

-- the square of their difference
square_limit : (x y : ℤ) → FitsSigned w16 x → FitsSigned w16 y → squared_difference x y ≤ 4294836225
square_limit x y fx fy =
    let d = difference_limit x y fx fy in
    mul-le-mul d d

-- a value is a 16-bit number
abbrev fits : ℤ → Type 0
fits = FitsSigned w16

-- the distance is at most so much a value
pub distance_each : (xs ys : List ℤ) → All (FitsSigned w16) xs → All (FitsSigned w16) ys
    → squared_distance xs ys ≤ length xs * 4294836225
distance_each [] ys fx fy = omega arith
distance_each (x ∷ xs) [] fx fy = omega arith
distance_each (x ∷ xs) (y ∷ ys) fx fy =
    let one = square_limit x y (All-head fits x xs fx) (All-head fits y ys fy) in
    let rest = distance_each xs ys (All-tail fits x xs fx) (All-tail fits y ys fy) in
    omega (arith, suc-mul (length xs) 4294836225)
