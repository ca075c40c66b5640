-- A search whose parts belong together.
use Rattle.std.specs.Prelude.{◌≡◌, ℕ, ◌<◌, ◌≤◌, length, All, List}
use Rattle.series_core.specs.Collection.{Collection, IsCollection}
use Rattle.series_core.specs.Distance.{squared_distance}
use Rattle.series_core.specs.declared.pair.Pair.{Pair}
use Rattle.subtree_build.specs.Fits.{Fits}
use Rattle.subtree_build.specs.Members.{series_at}
use Rattle.discord_query.specs.Discords.{least_farness}
use Rattle.discord_query.specs.declared.search.DiscordSearch.{DiscordSearch}
use Rattle.series_core.specs.declared.best.TheConstants.{MAX_BEST}

-- the index fits the rows under the layout, all of one length; some discords are wanted, and a group has a series
pub record IsReady {R : Type 0} (collection : R → Collection) (s : DiscordSearch R) : Type 0 where
  pub kept : IsCollection (collection s.rows.now)
  pub fits : Fits (collection s.rows.now) s.layout.now s.index.now
  pub points : (collection s.rows.now).points ≡ s.layout.now.cuts.row_length
  pub some : 1 ≤ s.k
  pub few : s.k ≤ MAX_BEST
  pub size : 1 ≤ s.size

-- another series than number s, at most this far from it
pub record IsNearOther (c : Collection) (s t radius : ℕ) : Type 0 where
  pub differs : t ≡ s → ⊥
  pub near : squared_distance (series_at c t) (series_at c s) ≤ radius

-- this is the number of such a series
abbrev pub IsNear : Collection → ℕ → ℕ → ℕ → Type 0
IsNear c s t radius = (t < length c.series) × IsNearOther c s t radius

-- each pair is of a series
abbrev pub AreSeries : Collection → List Pair → Type 0
AreSeries c ps = All (λ p. p.number < length c.series) ps

-- NONE less the distance of the k-th discord of what is searched, or NONE where there are fewer
abbrev pub floor_of : {R : Type 0} → (R → Collection) → DiscordSearch R → ℕ
floor_of collection s = least_farness (collection s.rows.now) s.k
