use Rattle.window_rows.proofs.Enough.{first_enough, nearest_enough}
use Rattle.window_rows.proofs.laws.enough_law.Goals as goal

pub returns-clause-pairs : goal.returns-clause-pairs
returns-clause-pairs c = first_enough

pub returns-clause-nearest : goal.returns-clause-nearest
returns-clause-nearest c = nearest_enough
