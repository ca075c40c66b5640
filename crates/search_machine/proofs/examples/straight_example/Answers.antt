use Rattle.search_machine.proofs.SmallSearches.{six_fits}
use Rattle.search_machine.proofs.examples.straight_example.Goals as goal

pub returns-clause-fits : goal.returns-clause-fits
returns-clause-fits c = six_fits
