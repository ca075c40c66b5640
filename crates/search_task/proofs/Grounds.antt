-- What a search of an index stands on, by one worker over one queue (`ground_fits`); its last distance and its answer are those of the
-- question (`ground_last`, `ground_answer`).
use Rattle.std.proofs.Common.{◌≡◌, arith}
use Rattle.series_core.specs.Answer.{answer as collection_answer}
use Rattle.search_machine.specs.Ground.{Fits, answer, last}
use Rattle.search_task.specs.Questions.{CanBeSearched, Searched, ground_of, last_of}
use Rattle.search_task.proofs.OfIndex.{answer_is, last_is, search_fits}

pub ground_fits : (s : Searched) → CanBeSearched s.question s.index → Fits (ground_of s)
ground_fits s searched = search_fits s.question s.index 1 1 searched (omega arith) (omega arith)

pub ground_last : (s : Searched) → CanBeSearched s.question s.index → last (ground_of s) ≡ last_of s.question
ground_last s searched = last_is s.question s.index 1 1 searched.question

pub ground_answer : (s : Searched)
    → answer (ground_of s) ≡ collection_answer s.question.collection s.question.query s.question.k
ground_answer s = answer_is s.question s.index 1 1
