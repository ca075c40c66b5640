-- What is tested of the arguments of a call, in this order, and the status of each test that fails.
use Rattle.std.specs.Prelude.{ℕ, ℤ, ◌*◌, ◌/◌, Bool, not, ◌&&◌, cond, List, [], ◌∷◌, length, nat_le, nat_lt, nat_eq, Option, None, Some}
use Rattle.std.specs.Option.{is_some}
use Rattle.segment_sums.specs.Division.{division_of}
use Rattle.breakpoints.specs.declared.table.Table.TheVariants.{Bent, Flat}
use Rattle.series_core.specs.declared.best.TheConstants.{MAX_BEST}
use Rattle.series_core.specs.declared.rows.TheConstants.{MAX_COUNT, MAX_LENGTH, MAX_VALUES}
use Rattle.series_core.specs.declared.pair.Pair.{Pair}
use Rattle.subtree_build.specs.declared.settings.Settings.{Settings}
use Rattle.window_rows.specs.Choice.{enough}
use Rattle.search_limits.specs.declared.numbers.TheConstants.{MOST_APART, MOST_LEAF, MOST_SEGMENTS}
use Rattle.isearch_c.specs.declared.held.Held.{Held}
use Rattle.isearch_c.specs.declared.settings.IsearchSettings.{IsearchSettings}
use Rattle.isearch_c.specs.declared.status.Status.{Status}
use Rattle.isearch_c.specs.declared.status.Status.TheVariants.{NoIndex, HasIndex, WrongRows, WrongSettings, WrongQueries, WrongCount, WrongPlaces}
use Rattle.isearch_c.specs.Kept.{searched}
use Rattle.isearch_c.specs.Statuses.{EndsThen}

-- the status of the first test that fails
abbrev pub first_fault : List (Bool × Status) → Option Status
first_fault [] = None
first_fault (test ∷ tests) = cond test.0 (first_fault tests) (Some test.1)

-- so many values are some rows of n values, within the limits
abbrev pub rows_fit : ℕ → ℕ → Bool
rows_fit n values =
    nat_lt 0 values && nat_lt 0 n && nat_le n MAX_LENGTH && nat_le values MAX_VALUES
    && nat_eq (values / n * n) values && nat_le (values / n) MAX_COUNT

-- segments and a leaf size that serve rows of the length
abbrev pub settings_fit : IsearchSettings → Bool
settings_fit s =
    nat_le 1 s.segments && nat_le s.segments MOST_SEGMENTS && nat_le s.segments s.length && nat_le s.length MAX_LENGTH
    && nat_le 1 s.leaf && nat_le s.leaf MOST_LEAF

-- the settings of an index
abbrev pub settings_of : IsearchSettings → Settings
settings_of s = record {
  layout = record { cuts = division_of s.length s.segments; table = cond s.bent Bent Flat };
  leaf_size = s.leaf;
}

-- so many values are queries of n values, and there may be none
abbrev pub queries_fit : ℕ → ℕ → Bool
queries_fit n values = nat_eq (values / n * n) values

-- so many of the nearest may be wanted
abbrev pub count_fits : ℕ → Bool
count_fits k = nat_le 1 k && nat_le k MAX_BEST

-- as many places for distances and for numbers as are wanted, k for each query
abbrev pub places_fit : ℕ → ℕ → ℕ → ℕ → Bool
places_fit queries k distances numbers = nat_eq distances (queries * k) && nat_eq numbers (queries * k)

-- what is tested where an index is built in a handle that has one or not
abbrev pub build_fault : Option Held → ℕ → IsearchSettings → Option Status
build_fault held values s =
    first_fault (
    (not (is_some held), HasIndex)
    ∷ (rows_fit s.length values, WrongRows)
    ∷ (settings_fit s, WrongSettings)
    ∷ []
    )

-- what is tested of a search for the k nearest among rows of n values
abbrev pub nearest_tests : ℕ → ℕ → ℕ → ℕ → ℕ → List (Bool × Status)
nearest_tests n values k distances numbers =
    (queries_fit n values, WrongQueries)
    ∷ (count_fits k, WrongCount)
    ∷ (places_fit (values / n) k distances numbers, WrongPlaces)
    ∷ []

-- what is tested where a handle is searched for them: first that there is an index
abbrev pub nearest_fault : Option Held → ℕ → ℕ → ℕ → ℕ → Option Status
nearest_fault held values k distances numbers =
    first_fault ((is_some held, NoIndex) ∷ nearest_tests (searched held).points values k distances numbers)

-- what is tested where one handle shares what it has with another
abbrev pub share_fault : Option Held → Option Held → Option Status
share_fault held other = first_fault ((is_some held, NoIndex) ∷ (not (is_some other), HasIndex) ∷ [])

-- what is tested where the text of an index is saved
abbrev pub save_fault : Option Held → Option Status
save_fault held = first_fault ((is_some held, NoIndex) ∷ [])

-- what is tested where an index of a text is loaded in a handle that has one or not, beside rows of n values
abbrev pub load_fault : Option Held → ℕ → ℕ → Option Status
load_fault held n values =
    first_fault ((not (is_some held), HasIndex) ∷ (rows_fit n values, WrongRows) ∷ [])

-- windows of n values may be taken of a series of so many values; there may be none
abbrev pub windows_fit : ℕ → ℕ → Bool
windows_fit n values = nat_lt 0 n && nat_le n MAX_LENGTH && nat_le values MAX_COUNT

-- so many windows may be wanted that lie so far apart
abbrev pub choice_fits : ℕ → ℕ → Bool
choice_fits k apart =
    nat_le 1 k && nat_le k MAX_BEST && nat_le 1 apart && nat_le apart MOST_APART && nat_le (enough apart k) MAX_BEST

-- what is tested of a search for windows of a series of so many values, by queries of so many values
abbrev pub windows_tests : IsearchSettings → ℕ → ℕ → ℕ → ℕ → ℕ → ℕ → List (Bool × Status)
windows_tests s series values k apart distances numbers =
    (windows_fit s.length series, WrongRows)
    ∷ (settings_fit s, WrongSettings)
    ∷ (queries_fit s.length values, WrongQueries)
    ∷ (choice_fits k apart, WrongCount)
    ∷ (places_fit (values / s.length) k distances numbers, WrongPlaces)
    ∷ []

-- what is tested of such a search, as a status
abbrev pub windows_fault : IsearchSettings → ℕ → ℕ → ℕ → ℕ → ℕ → ℕ → Option Status
windows_fault s series values k apart distances numbers =
    first_fault (windows_tests s series values k apart distances numbers)

-- what is tested of a search within a radius of a query of so many values, among rows of n values
abbrev pub within_tests : ℕ → ℕ → List (Bool × Status)
within_tests n values = (nat_eq values n, WrongQueries) ∷ []

-- what is tested of it, as a status
abbrev pub query_fault : ℕ → ℕ → Option Status
query_fault n values = first_fault (within_tests n values)

-- what is tested where a handle is searched so: first that there is an index
abbrev pub within_fault : Option Held → ℕ → Option Status
within_fault held values = first_fault ((is_some held, NoIndex) ∷ within_tests (searched held).points values)

-- there are places for so many pairs
abbrev pub has_room : ℕ → ℕ → ℕ → Bool
has_room pairs distances numbers = nat_le pairs distances && nat_le pairs numbers

-- how a search within a radius ends: by the fault that its tests tell, and where they tell none by whether there is room for what is near
abbrev pub EndsWithin : Option Status → List Pair → List ℕ → List ℕ → ℤ → Type 0
EndsWithin fault near distances numbers r =
    EndsThen fault (has_room (length near) (length distances) (length numbers)) WrongPlaces r
