-- What a searcher keeps before the parts of a search.
use Rattle.std.specs.Prelude.{ℕ}
use Rattle.claim_word.specs.Passes.{fresh_pass}
use Rattle.best_word.specs.Passes.{Best, Pass, fresh_pass as fresh_seen}
use Rattle.live_query.specs.RootClaims.{Drawn, Roots, fresh_drawn}

-- its draws of the root children, and its pass of the bound word
pub record Held : Type 0 where
  pub drawn : Drawn
  pub seen : Pass

-- with no draws, reads and offers yet
abbrev pub fresh_held : Roots → Best → ℕ → Held
fresh_held roots best floor = record { drawn = fresh_drawn (fresh_pass roots.counter); seen = fresh_seen best floor }
