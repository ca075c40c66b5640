use Rattle.queue_histories.proofs.Closings.{closes, unrefused}
use Rattle.queue_histories.proofs.laws.closing_queue_law.Goals as goal

pub returns-clause-closes : goal.returns-clause-closes
returns-clause-closes c = λ g team m q log way agrees. closes g team m q log way agrees

pub returns-clause-placed : goal.returns-clause-placed
returns-clause-placed c = λ m team log agrees placed. unrefused m team log agrees placed
