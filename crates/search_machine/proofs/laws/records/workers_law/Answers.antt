use Rattle.search_machine.proofs.AnyWorkers.{stands_any}
use Rattle.search_machine.proofs.laws.records.workers_law.Goals as goal

pub returns : goal.returns
returns c = λ g i n x stands. stands_any g n i x stands
