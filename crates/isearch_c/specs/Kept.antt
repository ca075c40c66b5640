-- What a handle keeps.
use Rattle.std.specs.Prelude.{◌≡◌, ℕ, ℤ, ◌/◌, List, [], length, Option, None, Some, true, IfSome}
use Rattle.std.specs.Option.{is_some}
use Rattle.std.specs.Global.{Box}
use Rattle.std.specs.Arc.{arc_value}
use Rattle.series_core.specs.Answer.{within}
use Rattle.series_core.specs.Collection.{Collection}
use Rattle.series_core.specs.Flat.{rows_of}
use Rattle.series_core.specs.declared.pair.Pair.{Pair}
use Rattle.subtree_build.specs.declared.settings.Settings.{Settings}
use Rattle.subtree_build.specs.Fits.{IsTreeOf}
use Rattle.isearch_c.specs.declared.held.Held.{Held}

-- what a box that was taken out has
abbrev pub kept_in : Option (Box Held) → Option Held
kept_in None = None
kept_in (Some b) = Some b.value

-- the collection that is searched; none of any length where there is no index
abbrev pub searched : Option Held → Collection
searched None = record { points = 0; series = [] }
searched (Some h) = (arc_value h.searchable).rows

-- what is searched for within a radius of a query
abbrev pub near_in : Option Held → List ℤ → ℕ → List Pair
near_in held query radius = within (searched held) query radius

-- rows of so many values that lie one behind another
abbrev pub rows_in : ℕ → List ℤ → Collection
rows_in n values = record { points = n; series = rows_of n (length values / n) values }

-- there is an index: the tree of this collection under these settings
pub record Keeps (c : Collection) (settings : Settings) (h : Held) : Type 0 where
  pub rows_are : (arc_value h.searchable).rows ≡ c
  pub settings_are : (arc_value h.searchable).settings ≡ settings
  pub tree_is : IsTreeOf c settings.layout settings.leaf_size (arc_value h.searchable).index

-- a handle keeps something of which this holds
abbrev pub HasHeld : (Held → Type 0) → Option Held → Type 0
HasHeld P m = (is_some m ≡ true) × IfSome m P

-- both keep the same, or nothing
abbrev pub SameKept : Option Held → Option Held → Type 0
SameKept None m = m ≡ None
SameKept (Some h) m = HasHeld (λ g. arc_value g.searchable ≡ arc_value h.searchable) m
