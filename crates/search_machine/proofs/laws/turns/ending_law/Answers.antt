use Rattle.search_machine.proofs.Ending.{ending_legal}
use Rattle.search_machine.proofs.laws.turns.ending_law.Goals as goal

pub returns : goal.returns
returns c g fits s sound done = ending_legal g fits s sound done
