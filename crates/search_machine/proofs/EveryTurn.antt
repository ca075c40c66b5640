-- Each turn from a sound state gives a sound state, and so does each schedule.
use Rattle.std.proofs.Common.{List, None, Option, Some, [], refl, subst, ℕ, ◌∷◌, ◌≡◌}
use Rattle.std.specs.Prelude.{slice_get}
use Rattle.search_machine.specs.declared.phase.Phase.{Phase}
use Rattle.search_machine.specs.declared.phase.Phase.TheVariants.{Aim, Claim, Done, Give, Late, Look, Offer, Pop}
use Rattle.search_machine.specs.Ground.{Fits, Ground, queue_of}
use Rattle.search_machine.specs.Machine.{State, run, turn, turn_of}
use Rattle.search_machine.specs.Workers.{Worker, round_queue}
use Rattle.search_machine.specs.Sound.{Sound}
use Rattle.search_machine.proofs.GiveTurns.{give_sound}
use Rattle.search_machine.proofs.PopTurns.{pop_sound}
use Rattle.search_machine.proofs.Rows.{row, row_is}
use Rattle.search_machine.proofs.WorkerTurns.{aim_sound, claim_sound, late_sound, look_sound, offer_sound}

-- the turn of a worker by its phase
phase_sound : (g : Ground) → Fits g → (s : State) (i : ℕ) (w : Worker) → Sound g s
    → slice_get s.workers i ≡ Some w → (phase : Phase) → w.phase ≡ phase
    → Sound g (row g i s w phase)
phase_sound g fits s i w sound at Claim e =
    claim_sound g fits s i w sound at e (slice_get g.roots s.claimed) refl
phase_sound g fits s i w sound at Look e = look_sound g s i w sound at e
phase_sound g fits s i w sound at (Give l) e =
    give_sound g fits s i w l sound at e (slice_get s.queues (queue_of g l)) refl
phase_sound g fits s i w sound at (Late l) e = late_sound g fits s i w l sound at e
phase_sound g fits s i w sound at (Aim j) e = aim_sound g s i w j sound at e
phase_sound g fits s i w sound at (Pop j v) e =
    pop_sound g fits s i w j v sound at e (slice_get s.queues (round_queue g i j)) refl
phase_sound g fits s i w sound at (Offer next) e = offer_sound g fits s i w next sound at e
phase_sound g fits s i w sound at Done e = sound

-- the turn of a worker, where there is one
turn_of_sound : (g : Ground) → Fits g → (s : State) (i : ℕ) → Sound g s → (o : Option Worker)
    → slice_get s.workers i ≡ o → Sound g (turn_of g i s o)
turn_of_sound g fits s i sound None at = sound
turn_of_sound g fits s i sound (Some w) at =
    subst (Sound g) (row_is g s i w fits.some_queue sound.queue_count w.phase)
    (phase_sound g fits s i w sound at w.phase refl)

-- a turn keeps a sound state sound
pub turn_sound : (g : Ground) → Fits g → (i : ℕ) (s : State) → Sound g s → Sound g (turn g i s)
turn_sound g fits i s sound = turn_of_sound g fits s i sound (slice_get s.workers i) refl

-- so does a schedule
pub run_sound : (g : Ground) → Fits g → (schedule : List ℕ) (s : State) → Sound g s
    → Sound g (run g schedule s)
run_sound g fits [] s sound = sound
run_sound g fits (i ∷ is) s sound = run_sound g fits is (turn g i s) (turn_sound g fits i s sound)
