use Rattle.search_machine.proofs.ElevenTurns.{eleven_closes}
use Rattle.search_machine.proofs.examples.closing_example.Goals as goal

pub returns-clause-closes : goal.returns-clause-closes
returns-clause-closes c = eleven_closes
