-- A worker that came to its end.
use Rattle.std.specs.Prelude.{◌≡◌, ℕ, IfSome, List, true}
use Rattle.std.specs.Global.{Vec}
use Rattle.series_core.specs.Collection.{Collection}
use Rattle.series_core.specs.declared.pair.Pair.{Pair}
use Rattle.claim_word.specs.Passes.{Pass}
use Rattle.subtree_build.specs.Index.{IndexParts}
use Rattle.worker_team.specs.declared.worker.TeamWorker.{TeamWorker}
use Rattle.range_query.specs.Near.{Asked, near_drawn}
use Rattle.range_query.specs.Searches.{asked_of}
use Rattle.range_query.specs.declared.walk.RadiusSearch.{RadiusSearch}

-- the pass drew until no group of `size` root children was left, and all that is near below those that it drew was found
pub record IsDone (a : Asked) (ix : IndexParts) (size : ℕ) (pass : Pass) (found : List Pair) : Type 0 where
  pub ended : pass.ended ≡ true
  pub all_near : found ≡ near_drawn a ix size pass.draws

-- what a worker made, if it made anything, is what it had to find
abbrev pub HasDrawn : {R : Type 0} → (R → Collection) → RadiusSearch R → TeamWorker (Vec Pair) → Type 0
HasDrawn collection s w =
    IfSome w.made (λ found. IsDone (asked_of collection s) s.index.now s.size w.pass found.items)
