use Rattle.queue_histories.proofs.Joins.{calls_joined, leads_joined}
use Rattle.queue_histories.proofs.laws.joined_law.Goals as goal

pub returns-clause-leads : goal.returns-clause-leads
returns-clause-leads c = λ q r s first second a b. leads_joined q r s first second a b

pub returns-clause-callers : goal.returns-clause-callers
returns-clause-callers c = λ i first second. calls_joined i first second
