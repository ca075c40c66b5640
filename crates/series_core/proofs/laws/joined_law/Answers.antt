use Rattle.series_core.proofs.Smallest.{smallest-append}
use Rattle.series_core.proofs.laws.joined_law.Goals as goal

pub returns : goal.returns
returns c = smallest-append
