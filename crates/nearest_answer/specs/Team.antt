-- What workers draw stretches of, what is found of the stretches that were drawn, and a worker of a team as it ends.
use Rattle.std.specs.Prelude.{◌≡◌, ℕ, ◌<◌, ◌≤◌, List, true}
use Rattle.std.specs.List.{All}
use Rattle.list_totals.specs.Totals.{times}
use Rattle.claim_word.specs.Passes.{Pass}
use Rattle.series_core.specs.Answer.{answer}
use Rattle.series_core.specs.Best.{Best}
use Rattle.series_core.specs.declared.pair.Pair.{Pair}
use Rattle.search_machine.specs.Sound.{ListSound}
use Rattle.search_task.specs.Questions.{Searched, ground_of}
use Rattle.nearest_answer.specs.Listed.{AreListed, leaves_drawn}
use Rattle.nearest_answer.specs.NearLeaves.{IsLeafEntry, leaves_in}
use Rattle.nearest_answer.specs.Stretches.{IsCut, by_stretches}
use Rattle.nearest_answer.specs.declared.team.Drawn.{Drawn}
use Rattle.nearest_answer.specs.declared.team.Drawn.TheVariants.{Listed, Whole}

-- entries are those of leaves, none of which is listed twice
abbrev pub MayBeDrawn : Searched → Drawn → Type 0
MayBeDrawn s (Listed es) = All (IsLeafEntry (ground_of s)) es.now × ((l : ℕ) → times l (leaves_in es.now) ≤ 1)
MayBeDrawn s (Whole by) = Unit {0}

-- so many stretches have all that is drawn, and each of them has some
abbrev pub AreCut : Searched → Drawn → ℕ → Type 0
AreCut s (Listed es) count = AreListed (ground_of s) es.now count
AreCut s (Whole by) count = IsCut s by count

-- the number of a stretch
abbrev pub IsStretch : Searched → Drawn → ℕ → Type 0
IsStretch s what n = (count : ℕ) × AreCut s what count × (n < count)

-- the pairs are of series of the stretches that were drawn, of so many, and each of the answer that is of one of them is there
abbrev pub HasFound : Searched → Drawn → ℕ → List ℕ → List Pair → Type 0
HasFound s (Listed es) count draws ps =
    ((l : ℕ) → times l (leaves_drawn es.now draws) ≤ 1) × ListSound (ground_of s) (leaves_drawn es.now draws) ps
HasFound s (Whole by) count draws ps = ListSound (by_stretches s by count) draws ps

-- the same where all stretches were drawn: of all leaves or rows it is the answer
abbrev pub HasAll : Searched → Drawn → List Pair → Type 0
HasAll s (Listed es) ps = ListSound (ground_of s) (leaves_in es.now) ps
HasAll s (Whole by) ps = ps ≡ answer s.question.collection s.question.query s.question.k

-- the pass drew until no stretch was left, and its list is what is found of those that it drew
pub record IsDone (s : Searched) (what : Drawn) (count : ℕ) (pass : Pass) (list : Best) : Type 0 where
  pub ended : pass.ended ≡ true
  pub found : HasFound s what count pass.draws list.pairs
