-- The text is of one index alone, and has no fault that could be given.
use Rattle.saved_index.proofs.LoadsBack.{loads_back}
use Rattle.saved_index.proofs.laws.loads_back_law.Goals as goal

pub returns : goal.returns
returns c = loads_back
