-- Windows of one long series: n values each, from every place that is a whole number of
-- steps.
use Rattle.std.specs.Prelude.{◌≡◌, ℕ, ◌+◌, ◌-◌, ◌*◌, ◌/◌, ◌<◌, ◌≤◌, ℤ, List, map, take, drop, length, None, Some, slice_get, nat_le, if◌then◌else◌, FitsSigned}
use Rattle.std.specs.List.{All, range_with_len}
use mir.Syntax.{w16}
use Rattle.series_core.specs.Collection.{Collection}
use Rattle.series_core.specs.declared.rows.TheConstants.{MAX_LENGTH, MAX_COUNT}

-- how many windows of n values a series of `size` values has
abbrev pub windows_count : ℕ → ℕ → ℕ → ℕ
windows_count size n step = if nat_le n size then (size - n) / step + 1 else 0

-- window i: the n values from place i * step on
abbrev pub window : List ℤ → ℕ → ℕ → ℕ → List ℤ
window values n step i = take n (drop (i * step) values)

-- all windows, in the order of their places
abbrev pub windows : List ℤ → ℕ → ℕ → List (List ℤ)
windows values n step =
    map (window values n step) (range_with_len 0 (windows_count (length values) n step))

-- the collection of all windows
abbrev pub collection_of : List ℤ → ℕ → ℕ → Collection
collection_of values n step = record { points = n; series = windows values n step }

-- there are no more values than a collection may have series
abbrev pub HasFewValues : List ℤ → Type 0
HasFewValues values = length values ≤ MAX_COUNT

-- the limits are kept
pub record IsLong (values : List ℤ) (n step : ℕ) : Type 0 where
  pub some_point : 0 < n
  pub length_limit : n ≤ MAX_LENGTH
  pub some_step : 0 < step
  pub values_limit : HasFewValues values
  pub each : All (FitsSigned w16) values

-- entry i is window i wherever the series has all its values
abbrev pub EachPlaceHasItsWindow : Type 0
EachPlaceHasItsWindow = (values : List ℤ) (n step i : ℕ) → 0 < step → i * step + n ≤ length values
    → slice_get (windows values n step) i ≡ Some (window values n step i)

-- and where the series ends before, there is no entry i
abbrev pub NoOtherWindow : Type 0
NoOtherWindow = (values : List ℤ) (n step i : ℕ) → 0 < step → length values < i * step + n
    → slice_get (windows values n step) i ≡ None
