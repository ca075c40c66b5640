use Rattle.series_core.proofs.Plain.{answer-rank}
use Rattle.series_core.proofs.laws.rank_law.Goals as goal

pub returns : goal.returns
returns c = answer-rank
