use Rattle.queue_histories.proofs.Pasts.{pasts}
use Rattle.queue_histories.proofs.laws.history_law.Goals as goal

pub returns : goal.returns
returns c = λ q log legal. pasts q log legal
