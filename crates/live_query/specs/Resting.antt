-- What a searcher keeps outside the two parts of a search.
use Rattle.std.specs.Prelude.{List, Bool}
use Rattle.best_word.specs.Passes.{Pass}

-- its pass of the bound word, and for each leaf whether it was put
pub record Kept : Type 0 where
  pub seen : Pass
  pub marks : List Bool
