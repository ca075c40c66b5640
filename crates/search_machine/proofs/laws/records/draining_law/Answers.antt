use Rattle.std.proofs.Common.{refl}
use Rattle.search_machine.proofs.Draining.{drains_on}
use Rattle.search_machine.proofs.laws.records.draining_law.Goals as goal

pub returns-clause-ended : goal.returns-clause-ended
returns-clause-ended c = λ g i x reply ended.
    (drains_on g i x.worker x.own x.worker.phase reply refl ended).0

pub returns-clause-claims : goal.returns-clause-claims
returns-clause-claims c = λ g i x reply ended.
    (drains_on g i x.worker x.own x.worker.phase reply refl ended).1

pub returns-clause-puts : goal.returns-clause-puts
returns-clause-puts c = λ g i x reply ended.
    (drains_on g i x.worker x.own x.worker.phase reply refl ended).2
