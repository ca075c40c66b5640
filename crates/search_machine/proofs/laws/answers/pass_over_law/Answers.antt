use Rattle.search_machine.proofs.ScanSteps.{passed_over}
use Rattle.search_machine.proofs.laws.answers.pass_over_law.Goals as goal

pub returns : goal.returns
returns c g p ps some_rank short near far =
    passed_over g.k p ps some_rank short.order short.size near far
