use Rattle.series_core.proofs.Limits.{distance_each}
use Rattle.series_core.proofs.laws.distance_law.Goals as goal

pub returns : goal.returns
returns c = distance_each
