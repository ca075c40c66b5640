use Rattle.search_machine.proofs.PutsOnce.{puts_once}
use Rattle.search_machine.proofs.RoomByRecords.{puts_fit}
use Rattle.search_machine.proofs.laws.records.puts_law.Goals as goal

pub returns-clause-once : goal.returns-clause-once
returns-clause-once c = λ g fits team stands claims l. puts_once g fits team stands claims l

pub returns-clause-room : goal.returns-clause-room
returns-clause-room c = λ g fits team stands claims m. puts_fit g fits team stands claims m
