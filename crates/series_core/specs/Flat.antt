-- Rows that stand one after another in one list of values.
use Rattle.std.specs.Prelude.{◌≡◌, ℕ, ◌*◌, ◌<◌, ◌≤◌, ℤ, List, [], ◌∷◌, ◌++◌, zero, suc, take, drop, length, FitsSigned}
use Rattle.std.specs.List.{All}
use mir.Syntax.{w16}
use Rattle.series_core.specs.declared.rows.TheConstants.{MAX_LENGTH, MAX_COUNT, MAX_VALUES}

-- `count` rows of n values each, the first of them at the front of the list
abbrev pub rows_of : ℕ → ℕ → List ℤ → List (List ℤ)
rows_of n zero values = []
rows_of n (suc count) values = take n values ∷ rows_of n count (drop n values)

-- the values of all rows, row after row
abbrev pub joined : List (List ℤ) → List ℤ
joined [] = []
joined (row ∷ rows) = row ++ joined rows

-- the values are those of `count` rows of n values, and the limits are kept
pub record IsFlat (n count : ℕ) (values : List ℤ) : Type 0 where
  pub some_point : 0 < n
  pub length_limit : n ≤ MAX_LENGTH
  pub count_limit : count ≤ MAX_COUNT
  pub size : length values ≡ count * n
  pub values_limit : length values ≤ MAX_VALUES
  pub each : All (FitsSigned w16) values
