-- What holds after every schedule: the state is sound, no put finds its queue full, and enough
-- turns end.
use Rattle.std.proofs.Common.{List, arith, ℕ, ◌<◌}
use Rattle.std.proofs.lemmas.Option.{slice_get_within}
use Rattle.search_machine.specs.Ground.{Fits, Ground, enough_turns}
use Rattle.search_machine.specs.Machine.{State, opened, played}
use Rattle.search_machine.specs.Outcome.{AllDone}
use Rattle.search_machine.specs.Schedules.{NamesEach, PutsHaveRoom}
use Rattle.search_machine.specs.Sound.{Sound}
use Rattle.search_machine.proofs.EveryTurn.{run_sound}
use Rattle.search_machine.proofs.Filling.{never_filled}
use Rattle.search_machine.proofs.LongSchedules.{run_ends}
use Rattle.search_machine.proofs.Opening.{opening_sound}

-- a schedule leads to a sound state
pub played_sound : (g : Ground) → Fits g → (schedule : List ℕ) → Sound g (played g schedule)
played_sound g fits schedule = run_sound g fits schedule (opened g) (opening_sound g fits)

-- in a sound state each put has room
pub sound_room : (g : Ground) (s : State) → Sound g s → PutsHaveRoom g s
sound_room g s sound i l c w q at e at_queue = never_filled g s i w l q sound at e at_queue c

-- a schedule that names each worker often enough leaves all done
pub enough_done : (g : Ground) → Fits g → (schedule : List ℕ)
    → NamesEach g (enough_turns g) schedule → AllDone (played g schedule)
enough_done g fits schedule often i w at =
    let within = slice_get_within (played g schedule).workers i w at in
    let count = (played_sound g fits schedule).worker_count in
    let low : i < g.workers = omega arith in
    let turns = often i low in
    run_ends g fits schedule i w (opening_sound g fits) (omega arith) at low
