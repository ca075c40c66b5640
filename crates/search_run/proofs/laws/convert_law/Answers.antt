use Rattle.search_run.proofs.Converting.{converts_back}
use Rattle.search_run.proofs.laws.convert_law.Goals as goal

pub returns : goal.returns
returns c = converts_back
