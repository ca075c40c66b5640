-- The index fits the series that the task asks of.
use Rattle.std.proofs.Common.{subst, sym}
use Rattle.search_task.specs.Questions.{Question}
use Rattle.subtree_build.specs.Fits.{Fits}
use Rattle.nearest_answer.proofs.Fitting.{Fits-had}
use Rattle.live_collection.proofs.batch.Batch.nearest.Goals as goal

pub one_worker_answer-requires : goal.one_worker_answer-requires
one_worker_answer-requires c =
    let batch = c.args.self.now in
    record {
      fits = subst (λ (a : Question). Fits a.collection a.layout batch.index) (sym c.new-task.ensures)
          (Fits-had batch.series batch.layout batch.index batch.fits);
    }
