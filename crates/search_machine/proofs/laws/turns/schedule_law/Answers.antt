use Rattle.search_machine.specs.Machine.{played}
use Rattle.search_machine.proofs.Schedules.{played_sound}
use Rattle.search_machine.proofs.Ending.{ending_legal}
use Rattle.search_machine.proofs.laws.turns.schedule_law.Goals as goal

pub returns : goal.returns
returns c g fits schedule done =
    ending_legal g fits (played g schedule) (played_sound g fits schedule) done
