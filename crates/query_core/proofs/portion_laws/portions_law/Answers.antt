use Rattle.query_core.proofs.LimitsKept.{found_low}
use Rattle.query_core.proofs.Portions.{last_portions}
use Rattle.query_core.proofs.portion_laws.portions_law.Goals as goal

pub returns-clause-all : goal.returns-clause-all
returns-clause-all c g v fits lasts = last_portions g fits v lasts

pub returns-clause-found : goal.returns-clause-found
returns-clause-found c g portion marks ps fits stay found = found_low g fits portion marks ps stay found
