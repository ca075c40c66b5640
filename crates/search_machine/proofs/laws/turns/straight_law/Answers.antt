use Rattle.search_machine.specs.Machine.{opened, played}
use Rattle.search_machine.proofs.Opening.{opening_sound}
use Rattle.search_machine.proofs.Schedules.{played_sound}
use Rattle.search_machine.proofs.OneWorker.{opening_straight, run_straight, straight_outcome}
use Rattle.search_machine.proofs.laws.turns.straight_law.Goals as goal

pub returns : goal.returns
returns c g fits alone schedule done =
    let straight =
    run_straight g fits alone schedule (opened g) (opening_sound g fits) (opening_straight g) in
    straight_outcome g fits (played g schedule) (played_sound g fits schedule) straight done
