-- Two blocks between which a distance is taken.
use Rattle.std.specs.Prelude.{ℤ, ◌≡◌, ◌%◌, ◌≤◌, List, length, FitsSigned}
use Rattle.std.specs.List.{All}
use mir.Syntax.{w16}

-- as many values of 16 bits in each, at most 64 in whole sixteens
pub record AreBlocks (xs ys : List ℤ) : Type 0 where
  pub same_length : length xs ≡ length ys
  pub short : length xs ≤ 64
  pub sixteens : length xs % 16 ≡ 0
  pub x_fits : All (FitsSigned w16) xs
  pub q_fits : All (FitsSigned w16) ys
