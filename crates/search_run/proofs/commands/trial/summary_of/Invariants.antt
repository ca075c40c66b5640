use Rattle.std.proofs.Common.{◌≡◌, ◌*◌, ◌^◌, ◌≤◌, take}
use Rattle.group_answer.specs.Asking.{AreAnswers}
use Rattle.series_core.specs.declared.best.TheConstants.{MAX_BEST}
use Rattle.search_run.specs.Trials.{answers_of, summed}
use Rattle.search_run.proofs.commands.trial.summary_of.Given as goal

abbrev pub invariant-loop-i : goal.invariant-loop-i
invariant-loop-i g l = record {
  ahead : AreAnswers g.R.Rows.collection l.batch.asked l.ahead.items;
  summed :
      l.summary
      ≡ summed (answers_of (g.R.Rows.collection l.batch.asked.rows.now) l.batch.asked.k (take l.i l.batch.asked.queries.now.series));
  few : l.summary.answers ≤ l.i * MAX_BEST;
  near : l.summary.distances ≤ l.i * (MAX_BEST * 2 ^ 64);
  low : l.summary.numbers ≤ l.i * (MAX_BEST * 2 ^ 32);
}
