use Rattle.queue_histories.proofs.QueueSteps.{steps}
use Rattle.queue_histories.proofs.laws.call_law.Goals as goal

pub returns : goal.returns
returns c = λ q call. steps q call
