use Rattle.window_rows.proofs.Places.{each_place, no_place}
use Rattle.window_rows.proofs.laws.windows_law.Goals as goal

pub returns-clause-each : goal.returns-clause-each
returns-clause-each c = each_place

pub returns-clause-no_other : goal.returns-clause-no_other
returns-clause-no_other c = no_place
