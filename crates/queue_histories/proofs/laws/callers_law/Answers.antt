use Rattle.queue_histories.proofs.Callers.{by_callers, by_team}
use Rattle.queue_histories.proofs.laws.callers_law.Goals as goal

pub returns-clause-callers : goal.returns-clause-callers
returns-clause-callers c = λ f n log low. by_callers f n log low

pub returns-clause-team : goal.returns-clause-team
returns-clause-team c =
    λ f count team log each. by_team f count team log each.callers each.accounts
