use Rattle.series_core.proofs.Parts.{kept, same_take}
use Rattle.series_core.proofs.laws.part_law.Goals as goal

pub returns-clause-kept : goal.returns-clause-kept
returns-clause-kept c = kept

pub returns-clause-same : goal.returns-clause-same
returns-clause-same c = same_take
