use Rattle.search_machine.proofs.PlainList.{last_worst}
use Rattle.search_machine.proofs.laws.answers.offer_law.Goals as goal

pub returns : goal.returns
returns c g fits ps ascending known =
    last_worst g fits ps (record { ascending = ascending; known = known })
