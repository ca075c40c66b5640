use Rattle.series_core.proofs.Plain.{answer-smallest, within-ascending}
use Rattle.series_core.proofs.laws.answer_law.Goals as goal

pub returns-clause-nearest : goal.returns-clause-nearest
returns-clause-nearest c = answer-smallest

pub returns-clause-near : goal.returns-clause-near
returns-clause-near c = within-ascending
