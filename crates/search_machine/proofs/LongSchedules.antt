-- A schedule that names each worker often enough leaves all workers done.
use Rattle.std.proofs.Common.{List, None, Option, Some, [], ap, arith, inl, inr, length, refl, set, suc, sym, zero, ℕ, ⊎_elim, ◌*◌, ◌+◌, ◌-◌, ◌<◌, ◌∙◌, ◌∷◌, ◌≡◌, ◌≢◌, ◌≤◌, ◌⊎◌}
use Rattle.std.proofs.lemmas.Bool.{cases_eq}
use Rattle.std.proofs.lemmas.Option.{none-some, same_Some}
use Rattle.std.specs.Prelude.{replicate, slice_get}
use Rattle.list_totals.specs.Totals.{one_if_same, times, total}
use Rattle.series_core.specs.declared.pair.Pair.{Pair}
use Rattle.leaf_queues.specs.PlainQueue.{PlainQueue}
use Rattle.search_machine.specs.declared.phase.Phase.{Phase}
use Rattle.search_machine.specs.declared.phase.Phase.TheVariants.{Aim, Claim, Done, Give, Late, Look, Offer, Pop}
use Rattle.search_machine.specs.Ground.{Fits, Ground}
use Rattle.search_machine.specs.Machine.{State, answered, shared, empty_queues, opened, run, turn, turn_by_phase, turn_of}
use Rattle.search_machine.specs.Calls.{call_in}
use Rattle.search_machine.specs.Shared.{held_after}
use Rattle.search_machine.specs.Workers.{Worker, after_reply, idle}
use Rattle.search_machine.specs.Sound.{PhaseSound, Sound}
use Rattle.search_machine.proofs.Counts.{counts_or_not, lengths_sum, sum_le, sum_ones}
use Rattle.search_machine.proofs.Effort.{done_or, effort, queue_effort, root_effort, turn_less, turns_left, worker_effort}
use Rattle.search_machine.proofs.EveryTurn.{run_sound, turn_sound}
use Rattle.search_machine.proofs.Places.{get_set_other, get_some, total_at}

-- worker j, who is not done, may have changed, and no other worker has
abbrev Moves : ℕ → State → State → Type 0
Moves j s t = (t.workers ≡ s.workers)
    ⊎ ((w : Worker) × (x : Worker) × (slice_get s.workers j ≡ Some w) × (w.phase ≢ Done)
    × (t.workers ≡ set s.workers j x))

module _ (g : Ground) (s : State) (j : ℕ) (w : Worker) (at : slice_get s.workers j ≡ Some w) where
  -- whatever the reply to its call, worker j alone moves
  reply_moves : w.phase ≢ Done → (phase : Phase)
      → Moves j s (answered g j s w phase (held_after (shared g s) (call_in g j w phase)))
  reply_moves ne phase = inr (
    w,
    after_reply g w phase (held_after (shared g s) (call_in g j w phase)).1,
    at,
    ne,
    refl,
  )

  -- any turn
  phase_moves : (phase : Phase) → (phase ≢ Done → w.phase ≢ Done)
      → Moves j s (turn_by_phase g j s w phase)
  phase_moves Claim ne = reply_moves (ne (λ h. cc)) Claim
  phase_moves Look ne = reply_moves (ne (λ h. cc)) Look
  phase_moves (Give l) ne = reply_moves (ne (λ h. cc)) (Give l)
  phase_moves (Late l) ne = reply_moves (ne (λ h. cc)) (Late l)
  phase_moves (Aim i) ne = reply_moves (ne (λ h. cc)) (Aim i)
  phase_moves (Pop i v) ne = reply_moves (ne (λ h. cc)) (Pop i v)
  phase_moves (Offer next) ne = reply_moves (ne (λ h. cc)) (Offer next)
  phase_moves Done ne = inl refl

-- a turn of worker j changes no other worker, and worker j only where it is not done
turn_of_moves : (g : Ground) (s : State) (j : ℕ) (o : Option Worker) → slice_get s.workers j ≡ o
    → Moves j s (turn_of g j s o)
turn_of_moves g s j None at = inl refl
turn_of_moves g s j (Some w) at = phase_moves g s j w at w.phase (λ ne. ne)

-- worker i is done
abbrev IsDone : State → ℕ → Type 0
IsDone s i = (w : Worker) × (slice_get s.workers i ≡ Some w) × (w.phase ≡ Done)

-- who is done stays done in a turn
turn_done : (g : Ground) (s : State) (i j : ℕ) → IsDone s i → IsDone (turn g j s) i
turn_done g s i j d = ⊎_elim
    (λ (same : (turn g j s).workers ≡ s.workers).
    (d.0, ap (λ (ws : List Worker). slice_get ws i) same ∙ d.1, d.2))
    (λ (m : (w : Worker) × (x : Worker) × (slice_get s.workers j ≡ Some w) × (w.phase ≢ Done)
    × ((turn g j s).workers ≡ set s.workers j x)). ⊎_elim
    (λ (e : i ≡ j). absurd
    (m.3 (ap (λ (w : Worker). w.phase)
    (same_Some m.0 d.0 (sym m.2 ∙ ap (slice_get s.workers) (sym e) ∙ d.1)) ∙ d.2)))
    (λ (ne : i ≢ j). (
      d.0,
      ap (λ (ws : List Worker). slice_get ws i) m.4
          ∙ get_set_other s.workers j i m.1 ne ∙ d.1,
      d.2,
    ))
    (cases_eq i j))
    (turn_of_moves g s j (slice_get s.workers j) refl)

-- and in a schedule
run_done : (g : Ground) (schedule : List ℕ) (s : State) (i : ℕ) → IsDone s i
    → IsDone (run g schedule s) i
run_done g [] s i d = d
run_done g (j ∷ js) s i d = run_done g js (turn g j s) i (turn_done g s i j d)

-- a turn of worker i uses up effort, or worker i is done
turn_effort : (g : Ground) → Fits g → (s : State) (i j : ℕ) → Sound g s → i < g.workers
    → IsDone s i ⊎ (one_if_same i j + effort g (turn g j s) ≤ effort g s)
turn_effort g fits s i j sound low = by (slice_get s.workers j) refl
  where
    is_one : (o : Option Worker) → slice_get s.workers j ≡ o → i ≡ j → (w : Worker) × (o ≡ Some w)
    is_one o e same = let r = get_some s.workers i (let c = sound.worker_count in omega arith) in
        (r.0, sym e ∙ ap (slice_get s.workers) (sym same) ∙ r.1)

    by : (o : Option Worker) → slice_get s.workers j ≡ o
        → IsDone s i ⊎ (one_if_same i j + effort g (turn_of g j s o) ≤ effort g s)
    by None e = ⊎_elim
        (λ (c : (one_if_same i j ≡ 1) × (i ≡ j)). let r = is_one None e c.1 in
        absurd (none-some r.0 r.1))
        (λ (c : one_if_same i j ≡ 0). inr (omega arith))
        (counts_or_not i j)
    by (Some w) e = ⊎_elim
        (λ (d : w.phase ≡ Done). ⊎_elim
        (λ (c : (one_if_same i j ≡ 1) × (i ≡ j)). inl (w, ap (slice_get s.workers) c.1 ∙ e, d))
        (λ (c : one_if_same i j ≡ 0). let a = ap
        (λ (p : Phase). effort g (turn_by_phase g j s w p)) d in inr (omega arith))
        (counts_or_not i j))
        (λ (ne : w.phase ≢ Done). ⊎_elim
        (λ (c : (one_if_same i j ≡ 1) × (i ≡ j)). let a = turn_less g fits s j w sound e w.phase
        refl ne in inr (omega arith))
        (λ (c : one_if_same i j ≡ 0). let a = turn_less g fits s j w sound e w.phase refl ne in
        inr (omega arith))
        (counts_or_not i j))
        (done_or w.phase)

-- a schedule uses up as much effort as it has turns of worker i, or leaves it done
run_effort : (g : Ground) → Fits g → (schedule : List ℕ) (s : State) (i : ℕ) → Sound g s
    → i < g.workers
    → IsDone (run g schedule s) i ⊎ (times i schedule + effort g (run g schedule s) ≤ effort g s)
run_effort g fits [] s i sound low = inr (omega arith)
run_effort g fits (j ∷ js) s i sound low = ⊎_elim
    (λ (d : IsDone s i). inl (run_done g (j ∷ js) s i d))
    (λ (a : one_if_same i j + effort g (turn g j s) ≤ effort g s). ⊎_elim
    (λ (d : IsDone (run g js (turn g j s)) i). inl d)
    (λ (b : times i js + effort g (run g js (turn g j s)) ≤ effort g (turn g j s)). inr
    (omega arith))
    (run_effort g fits js (turn g j s) i (turn_sound g fits j s sound) low))
    (turn_effort g fits s i j sound low)

-- who is not done has turns left
some_left : (g : Ground) (c : ℕ) (qs : List PlainQueue) (i : ℕ) (ls : List ℕ) (ps : List Pair)
    (phase : Phase) → PhaseSound g c qs i ls ps phase → phase ≢ Done → 0 < turns_left g phase
some_left g c qs i ls ps Claim h ne = omega arith
some_left g c qs i ls ps Look h ne = omega arith
some_left g c qs i ls ps (Give l) h ne = omega arith
some_left g c qs i ls ps (Late l) h ne = omega arith
some_left g c qs i ls ps (Aim j) h ne = let a = h.1 in omega arith
some_left g c qs i ls ps (Pop j v) h ne = let a = h.1 in omega arith
some_left g c qs i ls ps (Offer next) h ne = omega arith
some_left g c qs i ls ps Done h ne = absurd (ne refl)

-- the effort of workers that have done nothing
idle_effort : (g : Ground) (n : ℕ)
    → total (worker_effort g) (replicate n idle) ≡ n + 2 * n * g.queues
idle_effort g zero = omega arith
idle_effort g (suc n) = let a = idle_effort g n in omega arith

-- new queues take no effort
new_effort : (g : Ground) (m n : ℕ) → total queue_effort (empty_queues g m n) ≡ 0
new_effort g m zero = refl
new_effort g m (suc n) = let a = new_effort g (suc m) n in omega arith

-- root children take seven turns a leaf at most
roots_effort : (rs : List (List ℕ))
    → ((c : ℕ) (r : List ℕ) → slice_get rs c ≡ Some r → 0 < length r)
    → total root_effort rs ≤ 7 * total (λ (r : List ℕ). length r) rs
roots_effort [] some = omega arith
roots_effort (r ∷ rs) some = let a = some 0 r refl in
    let b = roots_effort rs (λ c x e. some (suc c) x e) in omega arith

-- the effort of the opening state
opening_effort : (g : Ground) → Fits g
    → effort g (opened g) ≤ 7 * g.leaves + g.workers + 2 * g.workers * g.queues
opening_effort g fits =
    let some = fits.some_worker in
    let n : g.workers ≡ suc (g.workers - 1) = omega arith in
    let a = idle_effort g (g.workers - 1) in
    let b = new_effort g 0 g.queues in
    let c = roots_effort g.roots fits.some_leaf in
    let d = lengths_sum g.leaves g.roots fits.below_real in
    let e = sum_le (λ l. total (times l) g.roots) (λ l. 1) g.leaves fits.below_once in
    let f = sum_ones g.leaves in
    let h : g.workers * g.queues ≡ (g.workers - 1) * g.queues + g.queues = ap
    (λ (m : ℕ). m * g.queues) n ∙ suc_times (g.workers - 1) g.queues in
    omega arith
  where
    suc_times : (m n : ℕ) → suc m * n ≡ m * n + n
    suc_times m n = omega arith

-- a schedule that names worker i often enough leaves it done
pub run_ends : (g : Ground) → Fits g → (schedule : List ℕ) (i : ℕ) (w : Worker) → Sound g (opened g)
    → 7 * g.leaves + g.workers + 2 * g.workers * g.queues ≤ times i schedule
    → slice_get (run g schedule (opened g)).workers i ≡ Some w → i < g.workers → w.phase ≡ Done
run_ends g fits schedule i w start often at low = ⊎_elim
    (λ (d : IsDone (run g schedule (opened g)) i). ap
    (λ (x : Worker). x.phase) (same_Some w d.0 (sym at ∙ d.1)) ∙ d.2)
    (λ (h : times i schedule + effort g (run g schedule (opened g)) ≤ effort g (opened g)). ⊎_elim
    (λ (d : w.phase ≡ Done). d)
    (λ (ne : w.phase ≢ Done).
    let a = opening_effort g fits in
    let sound = run_sound g fits schedule (opened g) start in
    let b = some_left g (run g schedule (opened g)).claimed (run g schedule (opened g)).queues
    i w.rest w.list w.phase (sound.workers i w at).phase ne in
    let c = total_at (worker_effort g) (run g schedule (opened g)).workers i w at in
    absurd (omega arith))
    (done_or w.phase))
    (run_effort g fits schedule (opened g) i start low)
