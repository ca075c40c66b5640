use Rattle.search_machine.proofs.SmallSearches.{three_fits}
use Rattle.search_machine.proofs.examples.shut_example.Goals as goal

pub returns-clause-fits : goal.returns-clause-fits
returns-clause-fits c = three_fits
