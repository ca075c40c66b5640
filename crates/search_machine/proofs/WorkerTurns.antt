-- The turns of a worker that call no queue keep the state sound: Claim, Look, Late, Aim and Offer.
use Rattle.std.proofs.Common.{List, None, Option, Some, [], ap, arith, false, leb, min, refl, subst, suc, sym, ℕ, ⊎_elim, ◌&&◌, ◌<◌, ◌∷◌, ◌≡◌, ◌≤◌}
use Rattle.std.proofs.lemmas.Bool.{and_cases, cond_both, eqb-false, leb-false}
use Rattle.std.specs.Prelude.{slice_get}
use Rattle.list_totals.specs.Totals.{one_if_same, times}
use Rattle.leaf_queues.specs.PlainQueue.{PlainQueue}
use Rattle.search_machine.specs.declared.phase.Onward.{Onward}
use Rattle.search_machine.specs.declared.phase.Onward.TheVariants.{Look as ToLook}
use Rattle.search_machine.specs.declared.phase.Phase.TheVariants.{Aim, Claim, Give, Late, Look, Offer, Pop}
use Rattle.search_machine.specs.Ground.{Fits, Ground, last, scan, start_limit, worst}
use Rattle.search_machine.specs.Machine.{State}
use Rattle.search_machine.proofs.Rows.{claim_turn, offer_turn, with_worker}
use Rattle.search_machine.specs.Workers.{Worker, after_claim, after_late, after_look, in_phase, is_new, onward, scanned_by, skip, stopped, without}
use Rattle.search_machine.specs.Sound.{Drains, OnwardSound, PhaseSound, Sound, WorkerSound, held, in_hand, scans}
use Rattle.search_machine.specs.Basics.{Between}
use Rattle.search_machine.proofs.Counts.{counts_or_not, same_counts}
use Rattle.search_machine.proofs.HandsAndScans.{held_fresh, held_real, onward_hand, onward_phase, scan_hand, skip_cut, skip_fewer, skip_head, stopped_held, stopped_scans, worker_scanned}
use Rattle.search_machine.proofs.Places.{get_none, total_at, total_drop}
use Rattle.search_machine.proofs.PlainList.{last_worst}
use Rattle.search_machine.proofs.Turns.{Alone, around, turned, turned_alone, worker_moves}

-- what holds of the one leaf holds wherever the other is that leaf
at_one : (g : Ground) (m l : ℕ) → 0 < one_if_same m l → last g < g.bound l → last g < g.bound m
at_one g m l h far = ⊎_elim
    (λ (c : (one_if_same m l ≡ 1) × (m ≡ l)). subst (λ (n : ℕ). last g < g.bound n) (sym c.1) far)
    (λ (c : one_if_same m l ≡ 0). absurd (omega arith))
    (counts_or_not m l)

-- a claim
pub claim_sound : (g : Ground) → Fits g → (s : State) (i : ℕ) (w : Worker) → Sound g s
    → slice_get s.workers i ≡ Some w → w.phase ≡ Claim → (o : Option (List ℕ))
    → slice_get g.roots s.claimed ≡ o → Sound g (claim_turn g i s w o)
claim_sound g fits s i w sound at e None none =
    turned_alone g s i w (in_phase (Aim 0) w) s.word sound at sound.word (record {
      fewer = λ l. let h = ap (in_hand l) e in omega arith;
      cut = λ l lost. let h = ap (in_hand l) e in absurd (omega arith);
      kept_scans = λ l. omega arith;
      worker = worker_moves g s.claimed s.claimed s.queues s.queues i w (Aim 0) w.rest
          (sound.workers i w at) (
            record {
              claimed = get_none g.roots s.claimed none;
              rest = subst (PhaseSound g s.claimed s.queues i w.rest w.list) e
                  (sound.workers i w at).phase;
              shut = λ x h. absurd (omega arith);
            },
            fits.some_queue,
          );
    })
claim_sound g fits s i w sound at e (Some r) some =
    turned g s i w (after_claim g w (Some r)) s.word (suc s.claimed) s.queues sound at (record {
      limit = sound.word;
      claims = omega arith;
      shut = λ m h. h;
      fewer = λ l. let h = same l in omega arith;
      cut = λ l lost. let h = same l in absurd (omega arith);
      kept_scans = λ l. omega arith;
      taken = λ l. omega arith;
      worker = worker_moves g s.claimed (suc s.claimed) s.queues s.queues i w Look
          (without g.start r)
          (sound.workers i w at) tt;
      queues = sound.queues;
      queue_count = sound.queue_count;
    })
  where
    same : (l : ℕ)
        → around g (suc s.claimed) s.queues (after_claim g w (Some r)) l
        ≡ around g s.claimed s.queues w l
    same l =
        let h = ap (in_hand l) e in
        let d = total_drop
        (λ (ls : List ℕ). times l (without g.start ls)) g.roots s.claimed r some in
        let empty : w.rest ≡ [] =
        subst (PhaseSound g s.claimed s.queues i w.rest w.list) e (sound.workers i w at).phase
        in
        let none = ap (times l) empty in
        omega arith

-- stopping at the first leaf that is left
stopped_sound : (g : Ground) (c : ℕ) (qs : List PlainQueue) (i : ℕ) (w : Worker) (v : ℕ)
    (ls : List ℕ) → v ≤ start_limit g → WorkerSound g c qs i w → skip g v w.rest ≡ ls
    → WorkerSound g c qs i (stopped w ls)
stopped_sound g c qs i w v [] low h e =
    worker_moves g c c qs qs i w Claim [] h refl
stopped_sound g c qs i w v (m ∷ ms) low h e =
    let b = skip_head g v m w.rest ms e in
    worker_moves g c c qs qs i w (Give m) ms h (omega arith)

-- a look
pub look_sound : (g : Ground) (s : State) (i : ℕ) (w : Worker) → Sound g s
    → slice_get s.workers i ≡ Some w → w.phase ≡ Look
    → Sound g (with_worker i (after_look g w s.word) s)
look_sound g s i w sound at e =
    turned_alone g s i w (after_look g w s.word) s.word sound at sound.word (record {
      fewer = λ l. let h = ap (in_hand l) e in let a = stopped_held w (skip g s.word w.rest) l in
          let b = stopped_scans w (skip g s.word w.rest) l in
          let d = skip_fewer g s.word l w.rest in
          omega arith;
      cut = λ l lost.
          let h = ap (in_hand l) e in
          let a = stopped_held w (skip g s.word w.rest) l in
          let b = stopped_scans w (skip g s.word w.rest) l in
          let far = skip_cut g s.word l w.rest (omega arith) in
          let low = sound.word.0 in
          omega arith;
      kept_scans = λ l. let b = stopped_scans w (skip g s.word w.rest) l in omega arith;
      worker = stopped_sound g s.claimed s.queues i w s.word (skip g s.word w.rest) sound.word.1
          (sound.workers i w at) refl;
    })

-- a read in Late
pub late_sound : (g : Ground) → Fits g → (s : State) (i : ℕ) (w : Worker) (l : ℕ) → Sound g s
    → slice_get s.workers i ≡ Some w → w.phase ≡ Late l
    → Sound g (with_worker i (after_late g w l s.word) s)
late_sound g fits s i w l sound at e =
    turned_alone g s i w (after_late g w l s.word) s.word sound at sound.word
    (cond_both (is_new l w && leb (g.bound l) s.word) (scanned_by g w l s.word ToLook)
    (in_phase Look w) (Alone g s i w) (λ _. scans_it) passes)
  where
    there : 0 < held l w
    there = let h = ap (in_hand l) e in let o = same_counts l in omega arith

    not_scanned : times l w.scanned ≡ 0
    not_scanned = let a = held_fresh g s sound i w l at there in
        let b = total_at (scans l) s.workers i w at in omega arith

    near_start : g.bound l ≤ start_limit g
    near_start =
        subst (PhaseSound g s.claimed s.queues i w.rest w.list) e (sound.workers i w at).phase

    scans_it : Alone g s i w (scanned_by g w l s.word ToLook)
    scans_it = record {
      fewer = λ m. let h = ap (in_hand m) e in
          let a = scan_hand g (scan g s.word (g.members l) w.list) s.word m ToLook in omega arith;
      cut = λ m lost. let h = ap (in_hand m) e in
          let a = scan_hand g (scan g s.word (g.members l) w.list) s.word m ToLook in
          absurd (omega arith);
      kept_scans = λ m. omega arith;
      worker = worker_scanned g fits s.claimed s.claimed s.queues s.queues i w l s.word ToLook
          (sound.workers i w at) (held_real g s sound i w l at there) not_scanned near_start
          sound.word.0 tt;
    }

    far : (is_new l w && leb (g.bound l) s.word) ≡ false → last g < g.bound l
    far b = ⊎_elim
        (λ (f : is_new l w ≡ false). absurd (eqb-false (times l w.scanned) 0 f not_scanned))
        (λ (f : leb (g.bound l) s.word ≡ false). let a = leb-false (g.bound l) s.word f in
        let low = sound.word.0 in omega arith)
        (and_cases (is_new l w) (leb (g.bound l) s.word) b)

    passes : (is_new l w && leb (g.bound l) s.word) ≡ false → Alone g s i w (in_phase Look w)
    passes b = record {
      fewer = λ m. let h = ap (in_hand m) e in omega arith;
      cut = λ m lost. let h = ap (in_hand m) e in at_one g m l (omega arith) (far b);
      kept_scans = λ m. omega arith;
      worker = worker_moves g s.claimed s.claimed s.queues s.queues i w Look w.rest
          (sound.workers i w at) tt;
    }

-- a read in Aim
pub aim_sound : (g : Ground) (s : State) (i : ℕ) (w : Worker) (j : ℕ) → Sound g s
    → slice_get s.workers i ≡ Some w → w.phase ≡ Aim j
    → Sound g (with_worker i (in_phase (Pop j s.word) w) s)
aim_sound g s i w j sound at e =
    turned_alone g s i w (in_phase (Pop j s.word) w) s.word sound at sound.word (record {
      fewer = λ l. omega arith;
      cut = λ l lost. let h = ap (in_hand l) e in absurd (omega arith);
      kept_scans = λ l. omega arith;
      worker = worker_moves g s.claimed s.claimed s.queues s.queues i w (Pop j s.word) w.rest
          (sound.workers i w at)
          (let h : Drains g s.claimed s.queues i j w.rest × (j < g.queues) =
          subst (PhaseSound g s.claimed s.queues i w.rest w.list) e (sound.workers i w at).phase in
          (h.0, h.1, sound.word));
    })

-- an offer
pub offer_sound : (g : Ground) → Fits g → (s : State) (i : ℕ) (w : Worker) (next : Onward)
    → Sound g s → slice_get s.workers i ≡ Some w → w.phase ≡ Offer next
    → Sound g (offer_turn g i s w next)
offer_sound g fits s i w next sound at e =
    turned_alone g s i w (in_phase (onward next) w) (min s.word (worst g w.list)) sound at limit
    (record {
      fewer = λ l. let a = onward_hand l next in omega arith;
      cut = λ l lost. let h = ap (in_hand l) e in
          let a = onward_hand l next in absurd (omega arith);
      kept_scans = λ l. omega arith;
      worker = worker_moves g s.claimed s.claimed s.queues s.queues i w (onward next) w.rest me
          (onward_phase g s.claimed s.queues i w.rest w.list next (phase e me.phase));
    })
  where
    me : WorkerSound g s.claimed s.queues i w
    me = sound.workers i w at

    phase : w.phase ≡ Offer next → PhaseSound g s.claimed s.queues i w.rest w.list w.phase
        → OnwardSound g s.claimed s.queues i w.rest next
    phase f h = (subst (PhaseSound g s.claimed s.queues i w.rest w.list) f h).1

    limit : Between g (min s.word (worst g w.list))
    limit =
        let a = last_worst g fits w.list
        (record { ascending = me.list.ascending; known = me.list.known }) in
        let b = sound.word.0 in
        let d = sound.word.1 in
        (omega arith, omega arith)
