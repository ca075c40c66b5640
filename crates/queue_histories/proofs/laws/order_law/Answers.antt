use Rattle.queue_histories.proofs.Joins.{taken_ascends}
use Rattle.queue_histories.proofs.laws.order_law.Goals as goal

pub returns : goal.returns
returns c = λ n q r fill drain puts pops a b. taken_ascends n q r fill drain puts pops a b
