-- Collections: series of one length, numbered from 0 by their places.
use Rattle.std.specs.Prelude.{◌≡◌, ℕ, ◌<◌, ◌≤◌, ℤ, List, length, FitsSigned}
use Rattle.std.specs.List.{All}
use mir.Syntax.{w16}
use Rattle.series_core.specs.declared.rows.TheConstants.{MAX_LENGTH, MAX_COUNT}

-- the number of points of each series, and the series in the order of their numbers
pub record Collection : Type 0 where
  pub points : ℕ
  pub series : List (List ℤ)

-- a series of n points, each a 16-bit value
pub record IsSeries (n : ℕ) (xs : List ℤ) : Type 0 where
  pub points : length xs ≡ n
  pub values : All (FitsSigned w16) xs

-- the limits are kept, and each series has the one length
pub record IsCollection (c : Collection) : Type 0 where
  pub some_point : 0 < c.points
  pub length_limit : c.points ≤ MAX_LENGTH
  pub count_limit : length c.series ≤ MAX_COUNT
  pub each : All (IsSeries c.points) c.series
