-- A worker of a team as it begins, and the lists of all workers merged.
use Rattle.std.specs.Prelude.{◌≡◌, ℕ, List, [], ◌∷◌, ◌++◌}
use Rattle.claim_word.specs.Passes.{Claim, fresh_pass}
use Rattle.best_word.specs.Passes.{Best as Limit, Pass as LimitPass, fresh_pass as fresh_word}
use Rattle.series_core.specs.Pairs.{smallest}
use Rattle.series_core.specs.declared.pair.Pair.{Pair}
use Rattle.list_team.specs.declared.searcher.Searcher.{Searcher}

-- a pass over this limit, with this floor
pub record IsTold (limit : Limit) (floor : ℕ) (pass : LimitPass) : Type 0 where
  pub best : pass.best ≡ limit
  pub floor_is : pass.floor ≡ floor

-- a worker that has drawn nothing and keeps nothing
pub record IsFresh (claims : Claim) (limit : Limit) (floor k : ℕ) (w : Searcher) : Type 0 where
  pub pass : w.pass ≡ fresh_pass claims
  pub word : w.word ≡ fresh_word limit floor
  pub list : w.list ≡ record { k = k; pairs = [] }

-- the pairs and those of the workers' lists, merged one list after another into the k smallest
abbrev pub merged : ℕ → List Pair → List Searcher → List Pair
merged k held [] = held
merged k held (w ∷ ws) = merged k (smallest k (w.list.pairs ++ held)) ws
