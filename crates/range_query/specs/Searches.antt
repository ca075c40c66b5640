-- A search: what it asks, and that its parts belong together.
use Rattle.std.specs.Prelude.{◌≡◌}
use Rattle.series_core.specs.Collection.{Collection}
use Rattle.mean_bound.specs.MeanBound.{mean_view_of}
use Rattle.range_query.specs.declared.walk.RadiusSearch.{RadiusSearch}
use Rattle.range_query.specs.Near.{Asked, IsAsked, ask}

-- what a search asks, where its rows are seen as a collection
abbrev pub asked_of : {R : Type 0} → (R → Collection) → RadiusSearch R → Asked
asked_of collection s = ask (collection s.rows.now) s.query.now s.radius

-- the index fits the collection under the layout of the query's view, all of one length, and its other view is by means
abbrev pub IsReady : {R : Type 0} → (R → Collection) → RadiusSearch R → Type 0
IsReady collection s =
    IsAsked (asked_of collection s) s.index.now s.view.now
    × (s.means.now ≡ mean_view_of s.view.now.layout.cuts s.query.now)
