-- Every run of one worker is straight, and so is its outcome.
use Rattle.std.proofs.Common.{List, None, Option, Some, [], ap, arith, false, inl, refl, subst, suc, sym, true, zero, ℕ, ⊎_elim, ◌++◌, ◌+◌, ◌-◌, ◌<◌, ◌∙◌, ◌∷◌, ◌≡◌, ◌⊎◌}
use Rattle.std.proofs.lemmas.Bool.{cond_both}
use Rattle.std.proofs.lemmas.Option.{none-some, same_Some, slice_get_within}
use Rattle.std.specs.Prelude.{replicate, slice_get}
use Rattle.list_totals.proofs.Totals.{total_map}
use Rattle.list_totals.specs.Totals.{total}
use Rattle.series_core.specs.declared.queue_words.Entry.{Entry}
use Rattle.leaf_queues.specs.PlainQueue.{PlainQueue, empty_queue}
use Rattle.search_machine.specs.declared.outcome.Fate.TheVariants.{Late as LateFate, Start as StartFate}
use Rattle.search_machine.specs.declared.outcome.QueueLine.{QueueLine}
use Rattle.search_machine.specs.Ground.{Fits, Ground}
use Rattle.search_machine.specs.Legal.{IsStraight, Legal}
use Rattle.search_machine.specs.Machine.{State, capacity_of, empty_queues, opened, run, turn, turn_of}
use Rattle.search_machine.specs.Workers.{Worker, idle, leader, fills}
use Rattle.search_machine.specs.Outcome.{AllDone, fate, first_place, is_start, late_fate, line_of, outcome, taken_fate}
use Rattle.search_machine.specs.Closes.{TakenInOrder}
use Rattle.search_machine.specs.Sound.{Sound, scans, takes}
use Rattle.search_machine.specs.Basics.{Ordered, entered}
use Rattle.search_machine.specs.Straight.{Straight, on_time}
use Rattle.search_machine.proofs.Ending.{ending_legal}
use Rattle.search_machine.proofs.Entries.{ordered_front}
use Rattle.search_machine.proofs.EveryTurn.{turn_sound}
use Rattle.search_machine.proofs.Opening.{start_only}
use Rattle.search_machine.proofs.Outcomes.{FirstPlace, found_some, get_fates, line_at}
use Rattle.search_machine.proofs.Places.{get_replicate, total_at, total_replicate_none}
use Rattle.search_machine.proofs.Rows.{row_is}
use Rattle.search_machine.proofs.StraightTurns.{NoneFills, phase_straight}

-- new queues are open, and nothing waits in them
new_open : (g : Ground) (m n i : ℕ) (q : PlainQueue) → slice_get (empty_queues g m n) i ≡ Some q
    → (q.kept ≡ None) × (q.taken ≡ []) × (q.waiting ≡ [])
new_open g m zero i q e = absurd (none-some q e)
new_open g m (suc n) zero q e =
    let same = same_Some (empty_queue (capacity_of g m g.leaves)) q e in (
      ap (λ (z : PlainQueue). z.kept) (sym same),
      ap (λ (z : PlainQueue). z.taken) (sym same),
      ap
          (λ (z : PlainQueue). z.waiting) (sym same),
    )
new_open g m (suc n) (suc i) q e = new_open g (suc m) n i q e

-- no worker is late as it opens
timely : (g : Ground) (n i : ℕ) (w : Worker) → slice_get (leader g ∷ replicate n idle) i ≡ Some w
    → on_time w.phase ≡ true
timely g n zero w e = ap (λ (z : Worker). on_time z.phase) (sym (same_Some (leader g) w e))
timely g n (suc i) w e = ap (λ (z : Worker). on_time z.phase) (sym (get_replicate n idle i w e))

-- the opening state is straight
pub opening_straight : (g : Ground) → Straight g (opened g)
opening_straight g = record {
  on_time = λ i w e. timely g (g.workers - 1) i w e;
  before_pops = λ i m w q e f h. let r = new_open g 0 g.queues m q f in (r.0, r.1);
  ordered = λ m q f. let r = new_open g 0 g.queues m q f in
      subst (λ (xs : List Entry). Ordered (xs ++ q.waiting)) (sym r.1) (subst Ordered (sym r.2) tt);
  taken = λ l h. let a = total_replicate_none (scans l) (g.workers - 1) idle refl in
      inl (start_only g.start l (omega arith));
}

-- with one worker nobody fills while it drains
alone_drains : (g : Ground) (s : State) (i : ℕ) (w : Worker) → g.workers ≡ 1 → Sound g s
    → slice_get s.workers i ≡ Some w → fills w.phase ≡ false → NoneFills s
alone_drains g s i w alone_there sound at e j y f =
    let a = slice_get_within s.workers i w at in
    let b = slice_get_within s.workers j y f in
    let c = sound.worker_count in
    let same : i ≡ j = omega arith in
    ap (λ (z : Worker). fills z.phase)
    (same_Some y w (sym f ∙ ap (slice_get s.workers) (sym same) ∙ at)) ∙ e

-- a turn of one worker
turn_of_straight : (g : Ground) → Fits g → (s : State) (i : ℕ) → g.workers ≡ 1 → Sound g s
    → Straight g s → (o : Option Worker) → slice_get s.workers i ≡ o → Straight g (turn_of g i s o)
turn_of_straight g fits s i alone_there sound t None at = t
turn_of_straight g fits s i alone_there sound t (Some w) at =
    subst (Straight g) (row_is g s i w fits.some_queue sound.queue_count w.phase)
    (phase_straight g s i w sound t at (alone_drains g s i w alone_there sound at) w.phase refl)

-- a schedule of one worker
pub run_straight : (g : Ground) → Fits g → g.workers ≡ 1 → (schedule : List ℕ) (s : State)
    → Sound g s → Straight g s → Straight g (run g schedule s)
run_straight g fits alone_there [] s sound t = t
run_straight g fits alone_there (i ∷ is) s sound t =
    run_straight g fits alone_there is (turn g i s) (turn_sound g fits i s sound)
    (turn_of_straight g fits s i alone_there sound t (slice_get s.workers i) refl)

-- a leaf with the fate Late was scanned
late_scanned : (g : Ground) (s : State) (l i : ℕ) → fate g s l ≡ LateFate i
    → 0 < total (scans l) s.workers
late_scanned g s l i =
    cond_both (is_start g.start l) StartFate (taken_fate g s l (first_place (takes l) s.queues))
    (λ f. f ≡ LateFate i → 0 < total (scans l) s.workers)
    (λ _ h. absurd (cc))
    (λ _. by (first_place (takes l) s.queues))
  where
    late : (o : Option ℕ) → first_place (scans l) s.workers ≡ o → late_fate g l o ≡ LateFate i
        → 0 < total (scans l) s.workers
    late None e h = absurd (cc)
    late (Some j) e h =
        let r : FirstPlace (scans l) s.workers j = found_some (scans l) s.workers j e in
        let a = total_at (scans l) s.workers j r.item r.at in
        let b = r.some in
        omega arith

    by : (o : Option ℕ) → taken_fate g s l o ≡ LateFate i → 0 < total (scans l) s.workers
    by None h = late (first_place (scans l) s.workers) refl h
    by (Some m) h = absurd (cc)

-- the outcome is straight where each scanned leaf is the start leaf or was taken, and what was
-- taken ascends
pub straight_ends : (g : Ground) → Fits g → (s : State) → Sound g s → AllDone s
    → ((l : ℕ) → 0 < total (scans l) s.workers
    → (g.start ≡ Some l) ⊎ (0 < total (takes l) s.queues))
    → TakenInOrder s.queues → IsStraight (outcome g s)
straight_ends g fits s sound done taken ordered = record {
  no_late = λ l i e.
      let r = get_fates g s 0 g.leaves l (LateFate i) e in
      let legal : Legal g (outcome g s) = ending_legal g fits s sound done in
      let right = legal.fates l (LateFate i) e in
      let same : l + 0 ≡ l = omega arith in
      let marked = late_scanned g s l i (ap (fate g s) (sym same) ∙ r.1) in
      let lines = total_map (λ (line : QueueLine). entered l line.taken) line_of s.queues in
      let none = right.0.1 in
      ⊎_elim (λ (start : g.start ≡ Some l). right.0.0 start)
      (λ (h : 0 < total (takes l) s.queues). absurd (omega arith)) (taken l marked);
  lines = λ m line e.
      let r = line_at s.queues m line e in
      subst (λ (x : QueueLine). Ordered x.taken) r.2
      (ordered m r.0 r.1);
}

-- a straight state has a straight outcome
pub straight_outcome : (g : Ground) → Fits g → (s : State) → Sound g s → Straight g s → AllDone s
    → IsStraight (outcome g s)
straight_outcome g fits s sound t done =
    straight_ends g fits s sound done t.taken
    (λ m q e. ordered_front q.taken q.waiting (t.ordered m q e))
