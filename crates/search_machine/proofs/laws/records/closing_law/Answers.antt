use Rattle.search_machine.proofs.Closing.{closed_legal}
use Rattle.search_machine.proofs.laws.records.closing_law.Goals as goal

pub returns : goal.returns
returns c g fits team queues closes = closed_legal g fits team queues closes
