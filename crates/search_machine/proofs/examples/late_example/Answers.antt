use Rattle.search_machine.proofs.SmallSearches.{two_fits}
use Rattle.search_machine.proofs.examples.late_example.Goals as goal

pub returns-clause-fits : goal.returns-clause-fits
returns-clause-fits c = two_fits 1
