use Rattle.search_machine.specs.Machine.{played}
use Rattle.search_machine.proofs.Schedules.{played_sound, sound_room}
use Rattle.search_machine.proofs.laws.turns.room_law.Goals as goal

pub returns-clause-sound : goal.returns-clause-sound
returns-clause-sound c g fits s sound = sound_room g s sound

pub returns-clause-schedule : goal.returns-clause-schedule
returns-clause-schedule c g fits schedule =
    sound_room g (played g schedule) (played_sound g fits schedule)
