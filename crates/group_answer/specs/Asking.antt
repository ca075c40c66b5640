-- Several queries, what they are asked of, and their answers.
use Rattle.std.specs.Prelude.{◌≡◌, ℕ, ◌<◌, ◌≤◌, List, [], get_or}
use Rattle.std.specs.List.{All}
use Rattle.series_core.specs.Answer.{answer}
use Rattle.series_core.specs.Collection.{Collection}
use Rattle.series_core.specs.declared.best.TheConstants.{MAX_BEST}
use Rattle.series_core.specs.declared.pair.Pair.{Pair}
use Rattle.subtree_build.specs.Fits.{Fits}
use Rattle.search_task.specs.Questions.{Question}
use Rattle.group_answer.specs.declared.asked.Answered.{Answered}
use Rattle.group_answer.specs.declared.asked.Asked.{Asked}

-- what query i asks
abbrev pub question_of : {R : Type 0} → (R → Collection) → Asked R → ℕ → Question
question_of collection a i = record {
  collection = collection a.rows.now;
  query = get_or a.queries.now.series i [];
  k = a.k;
  layout = a.layout.now;
}

-- the answer to query i
abbrev pub answer_to : {R : Type 0} → (R → Collection) → Asked R → ℕ → List Pair
answer_to collection a i = answer (collection a.rows.now) (get_or a.queries.now.series i []) a.k

-- from 1 to 1024 pairs are asked for, rows and queries are as long as the layout says, and the index is one of the rows
pub record IsAsked {R : Type 0} (collection : R → Collection) (a : Asked R) : Type 0 where
  pub some : 0 < a.k
  pub few : a.k ≤ MAX_BEST
  pub rows : (collection a.rows.now).points ≡ a.layout.now.cuts.row_length
  pub queries : a.queries.now.points ≡ a.layout.now.cuts.row_length
  pub fits : Fits (collection a.rows.now) a.layout.now a.index.now

-- the pairs are the answer to the query of this number
abbrev pub IsAnswer : {R : Type 0} → (R → Collection) → Asked R → Answered → Type 0
IsAnswer collection a found = found.pairs ≡ answer_to collection a found.number

-- and so of each of them
abbrev pub AreAnswers : {R : Type 0} → (R → Collection) → Asked R → List Answered → Type 0
AreAnswers collection a = All (IsAnswer collection a)
