-- A worker as it ends, and the part of all pairs that its list holds.
use Rattle.std.specs.Prelude.{◌≡◌, ◌⊎◌, ℕ, List, true, take}
use Rattle.list_totals.specs.Standing.{In}
use Rattle.claim_word.specs.Passes.{Pass}
use Rattle.series_core.specs.Best.{Best}
use Rattle.series_core.specs.Collection.{Collection}
use Rattle.series_core.specs.Order.{Among, Ascending}
use Rattle.series_core.specs.Pairs.{ascending}
use Rattle.series_core.specs.declared.pair.Pair.{Pair}
use Rattle.discord_query.specs.Discords.{all_farness}
use Rattle.discord_query.specs.Groups.{group_of}

-- a list for k pairs that holds some of those of all series, ascending
pub record IsPart (c : Collection) (k : ℕ) (list : Best) : Type 0 where
  pub room : list.k ≡ k
  pub strict : Ascending list.pairs
  pub among : Among list.pairs (all_farness c)

-- the list after some series were taken in: a part still, with no pair more than those of these series, and with each of
-- the k smallest of all that it had or that is of one of these series
pub record Weighed (c : Collection) (k : ℕ) (Taken : ℕ → Type 0) (before after : Best) : Type 0 where
  pub part : IsPart c k after
  pub only : (p : Pair) → In p after.pairs → In p before.pairs ⊎ Taken p.number
  pub keeps : (p : Pair) → In p (take k (ascending (all_farness c))) → In p before.pairs ⊎ Taken p.number
      → In p after.pairs

-- the list has pairs of the series of these groups alone, and each of the k smallest of all that is of one of them
pub record Holds (c : Collection) (k size : ℕ) (draws : List ℕ) (pairs : List Pair) : Type 0 where
  pub only : (p : Pair) → In p pairs → In (group_of size p.number) draws
  pub has : (p : Pair) → In p (take k (ascending (all_farness c))) → In (group_of size p.number) draws → In p pairs

-- the pass drew until no group of `size` series was left, and its list is what it has to hold of those that it drew
pub record IsDone (c : Collection) (k size : ℕ) (pass : Pass) (list : Best) : Type 0 where
  pub ended : pass.ended ≡ true
  pub part : IsPart c k list
  pub holds : Holds c k size pass.draws list.pairs
