use Rattle.std.proofs.Common.{ℕ, List, take}
use Rattle.group_answer.specs.Asking.{AreAnswers}
use Rattle.search_run.specs.Batches.{IsTold}
use Rattle.search_run.specs.Texts.{IsTextOf}
use Rattle.search_run.proofs.Writing.{Going}
use Rattle.search_run.proofs.answers.write_answers.Given as goal

abbrev pub invariant-loop-i : goal.invariant-loop-i
invariant-loop-i g l = AreAnswers g.R.Rows.collection l.batch.asked l.ahead.items
    × ((done : List ℕ)
    × IsTextOf (IsTold l.telling (g.R.Rows.collection l.batch.asked.rows.now) l.batch.asked.k) (take l.i l.batch.asked.queries.now.series) done
    × Going g.S.Sink l.fn.out l.out done)
