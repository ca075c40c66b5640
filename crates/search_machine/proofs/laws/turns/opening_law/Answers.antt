use Rattle.search_machine.proofs.Opening.{opening_sound}
use Rattle.search_machine.proofs.laws.turns.opening_law.Goals as goal

pub returns : goal.returns
returns c g fits = opening_sound g fits
