-- What one call asks of rows with an index, and when it may ask it.
use Rattle.std.specs.Prelude.{◌≡◌, ℕ, ℤ, ◌*◌, ◌/◌, ◌≤◌, List, length, IfSome}
use Rattle.series_core.specs.Collection.{Collection}
use Rattle.series_core.specs.declared.best.TheConstants.{MAX_BEST}
use Rattle.subtree_build.specs.Fits.{Fits}
use Rattle.window_rows.specs.Choice.{enough}
use Rattle.isearch_c.specs.declared.answers.Asked.{Asked}
use Rattle.isearch_c.specs.declared.answers.IndexedRows.{IndexedRows}
use Rattle.search_limits.specs.declared.numbers.TheConstants.{MOST_APART}

-- the index fits the rows, which are as long as the layout says
pub record AreIndexed {R : Type 0} (collection : R → Collection) (g : IndexedRows R) : Type 0 where
  pub fits : Fits (collection g.rows.now) g.layout.now g.index.now
  pub length : (collection g.rows.now).points ≡ g.layout.now.cuts.row_length

-- so many pairs may be wanted
abbrev pub CanWant : ℕ → Type 0
CanWant k = (1 ≤ k) × (k ≤ MAX_BEST)

-- so many pairs may be wanted whose numbers lie so far apart
abbrev pub CanChoose : ℕ → ℕ → Type 0
CanChoose k apart = (1 ≤ apart) × (apart ≤ MOST_APART) × (enough apart k ≤ MAX_BEST)

-- what is wanted of a query is within its limits
pub record CanAsk (asked : Asked) : Type 0 where
  pub k : CanWant asked.k
  pub apart : IfSome asked.apart (CanChoose asked.k)

-- the values are a whole number of queries of n values
abbrev pub AreWhole : ℕ → List ℤ → Type 0
AreWhole n values = length values / n * n ≡ length values
