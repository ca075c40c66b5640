use Rattle.search_machine.proofs.Schedules.{enough_done}
use Rattle.search_machine.proofs.laws.turns.enough_law.Goals as goal

pub returns : goal.returns
returns c g fits schedule often = enough_done g fits schedule often
