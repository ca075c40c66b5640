use Rattle.search_machine.proofs.EveryTurn.{turn_sound}
use Rattle.search_machine.proofs.laws.turns.turn_law.Goals as goal

pub returns : goal.returns
returns c g fits i s sound = turn_sound g fits i s sound
