-- A pop keeps the state sound: it takes the least entry, or the queue is shut.
use Rattle.std.proofs.Common.{List, None, Option, Some, [], ap, arith, inl, inr, length, ltb, refl, set, subst, suc, sym, true, ℕ, ⊎_elim, ◌&&◌, ◌+◌, ◌<◌, ◌∙◌, ◌∷◌, ◌≡◌, ◌≤◌}
use Rattle.std.proofs.lemmas.Bool.{and_from, cases_eq, cond-true, cond_both, eq-eqb, false≢true, lt-ltb, ltb-false, ltb-true}
use Rattle.std.proofs.lemmas.List.{length-append}
use Rattle.std.proofs.lemmas.Option.{none-some, same_Some}
use Rattle.std.specs.Prelude.{is_some, slice_get}
use Rattle.list_totals.proofs.Totals.{total_append}
use Rattle.list_totals.specs.Totals.{one_if_same, times}
use Rattle.series_core.specs.declared.queue_words.Entry.{Entry}
use Rattle.series_core.specs.declared.queue_words.PopReply.{PopReply}
use Rattle.series_core.specs.declared.queue_words.PopReply.TheVariants.{Closed, Leaf}
use Rattle.leaf_queues.specs.PlainQueue.{PlainQueue, pop_open, shut_with, taken_from}
use Rattle.search_machine.specs.declared.phase.Onward.TheVariants.{Aim as ToAim}
use Rattle.search_machine.specs.declared.phase.Phase.TheVariants.{Aim, Done, Pop}
use Rattle.search_machine.specs.Ground.{Fits, Ground, last, scan, start_limit}
use Rattle.search_machine.specs.Machine.{State}
use Rattle.search_machine.proofs.Rows.{pop_done, pop_turn, with_queue}
use Rattle.search_machine.specs.Workers.{Worker, after_pop, in_phase, is_new, round_queue, scanned_by}
use Rattle.list_totals.specs.Standing.{In}
use Rattle.search_machine.specs.Sound.{Drains, IsShut, PhaseSound, QueueSound, Sound, WorkerSound, held, in_hand, scans, waits}
use Rattle.search_machine.specs.Basics.{Between, EntryRight, Ordered, entered}
use Rattle.search_machine.proofs.Counts.{same_counts}
use Rattle.search_machine.proofs.Entries.{bound_order}
use Rattle.search_machine.proofs.HandsAndScans.{scan_hand, waits_fresh, worker_scanned}
use Rattle.list_totals.proofs.Standing.{in_append}
use Rattle.search_machine.proofs.Places.{get_set_same, total_at}
use Rattle.search_machine.proofs.Turns.{drains_still, stay_shut, turned_together, worker_moves}

module _ (g : Ground) (fits : Fits g) (s : State) (i : ℕ) (w : Worker) (j v : ℕ) (q : PlainQueue)
    (sound : Sound g s) (at : slice_get s.workers i ≡ Some w) (e : w.phase ≡ Pop j v)
    (at_queue : slice_get s.queues (round_queue g i j) ≡ Some q) where
  -- the worker is sound
  me : WorkerSound g s.claimed s.queues i w
  me = sound.workers i w at

  -- so is the queue
  old : QueueSound g (round_queue g i j) q
  old = sound.queues (round_queue g i j) q at_queue

  -- the worker drains, with a limit that may be read
  draining : Drains g s.claimed s.queues i j w.rest × (j < g.queues) × Between g v
  draining = subst (PhaseSound g s.claimed s.queues i w.rest w.list) e me.phase

  -- the queue is shut from now on
  drained : (r : PlainQueue) → is_some r.kept ≡ true
      → Drains g s.claimed (set s.queues (round_queue g i j) r) i (suc j) w.rest
  drained r shut = record {
    claimed = draining.0.claimed;
    rest = draining.0.rest;
    shut = λ x low. ⊎_elim
        (λ (same : x ≡ j). subst
        (λ (n : ℕ). IsShut (set s.queues (round_queue g i j) r) (round_queue g i n)) (sym same)
        (λ p f. subst
        (λ (z : PlainQueue). is_some z.kept ≡ true)
        (get_set_same s.queues (round_queue g i j) p r f) shut))
        (λ (other : x ≡ j → ⊥). stay_shut s.queues (round_queue g i j) q r at_queue
        (λ _. shut) (round_queue g i x) (draining.0.shut x (omega arith)))
        (cases_eq x j);
  }

  -- the worker goes on to the next queue, or is done
  goes_on : (r : PlainQueue) (k : ℕ) → is_some r.kept ≡ true
      → WorkerSound g s.claimed (set s.queues (round_queue g i j) r) i
      (after_pop g w j v (Closed k))
  goes_on r k shut =
      cond_both (ltb (suc j) g.queues) (in_phase (Aim (suc j)) w) (in_phase Done w)
      (WorkerSound g s.claimed (set s.queues (round_queue g i j) r) i)
      (λ b. worker_moves g s.claimed s.claimed s.queues (set s.queues (round_queue g i j) r) i w
      (Aim (suc j)) w.rest me (drained r shut, ltb-true (suc j) g.queues b))
      (λ b.
      let d = drained r shut in
      let f = ltb-false (suc j) g.queues b in
      worker_moves g s.claimed s.claimed s.queues (set s.queues (round_queue g i j) r) i w Done
      w.rest me (record {
        claimed = d.claimed;
        rest = d.rest;
        shut =
            λ x low. d.shut x (omega arith);
      }))

  -- it holds nothing but its rest
  closed_held : (k l : ℕ) → held l (after_pop g w j v (Closed k)) ≡ times l w.rest
  closed_held k l =
      cond_both (ltb (suc j) g.queues) (in_phase (Aim (suc j)) w) (in_phase Done w)
      (λ x. held l x ≡ times l w.rest) (λ _. omega arith) (λ _. omega arith)

  -- it scans nothing
  closed_scans : (k l : ℕ) → scans l (after_pop g w j v (Closed k)) ≡ scans l w
  closed_scans k l =
      cond_both (ltb (suc j) g.queues) (in_phase (Aim (suc j)) w) (in_phase Done w)
      (λ x. scans l x ≡ scans l w) (λ _. refl) (λ _. refl)

  -- the pop takes nothing, and the queue is shut
  pop_nothing : (r : PlainQueue) (k : ℕ) → is_some r.kept ≡ true → r.waiting ≡ q.waiting
      → r.taken ≡ q.taken → QueueSound g (round_queue g i j) r
      → Sound g (with_queue (round_queue g i j) r i (after_pop g w j v (Closed k)) s)
  pop_nothing r k shut same_waiting same_taken right =
      turned_together g s i (round_queue g i j) w (after_pop g w j v (Closed k)) q r sound at
      at_queue (record {
        shut = λ _. shut;
        fewer = λ l. let h = ap (in_hand l) e in
            let a = closed_held k l in
            let b = closed_scans k l in let d = ap (entered l) same_waiting in omega arith;
        cut = λ l lost. let h = ap (in_hand l) e in
            let a = closed_held k l in
            let b = closed_scans k l in let d = ap (entered l) same_waiting in absurd (omega arith);
        kept_scans = λ l. let b = closed_scans k l in omega arith;
        taken = λ l. let b = closed_scans k l in let d = ap (entered l) same_taken in omega arith;
        worker = goes_on r k shut;
        queue = right;
      })

  -- the pop shuts the queue
  pop_shuts : ((d : Entry) → In d q.waiting → last g < d.bound)
      → Sound g (with_queue (round_queue g i j) (shut_with v q) i (after_pop g w j v (Closed v)) s)
  pop_shuts far = pop_nothing (shut_with v q) v refl refl refl (record {
    ordered = old.ordered;
    waiting = old.waiting;
    taken = old.taken;
    placed = old.placed;
    capacity = old.capacity;
    kept = λ k f. subst (Between g) (same_Some v k f) draining.2;
    above = λ k f. far;
  })

  -- the pop takes the first entry
  pop_takes : (d : Entry) (ds : List Entry) → q.kept ≡ None → q.waiting ≡ d ∷ ds
      → Sound g (with_queue (round_queue g i j) (taken_from d ds q) i (after_pop g w j v (Leaf d))
      s)
  pop_takes d ds none is =
      subst (λ (x : Worker). Sound g (with_queue (round_queue g i j) r i x s)) (sym scans_it)
      (turned_together g s i (round_queue g i j) w (scanned_by g w d.leaf v (ToAim j)) q r sound at
      at_queue (record {
        shut = keeps;
        fewer = λ l. let h = ap (in_hand l) e in let a = hand l in let b = less l in omega arith;
        cut = λ l lost. let h = ap (in_hand l) e in
            let a = hand l in let b = less l in absurd (omega arith);
        kept_scans = λ l. omega arith;
        taken = λ l. let b = total_append (λ (x : Entry). one_if_same l x.leaf) q.taken (d ∷ []) in
            omega arith;
        worker = worker_scanned g fits s.claimed s.claimed s.queues
            (set s.queues (round_queue g i j) r) i w d.leaf v (ToAim j) me first_right.real
            not_scanned near_start draining.2.0 (
              drains_still g s.claimed s.claimed s.queues (set s.queues (round_queue g i j) r) i j
                  w.rest (omega arith) (stay_shut s.queues (round_queue g i j) q r at_queue keeps)
                  draining.0,
              draining.1,
            );
        queue = record {
          ordered = ordered.1;
          waiting = λ x t. right x (inr t);
          taken = λ x t. ⊎_elim
              (λ (u : In x q.taken). old.taken x u)
              (λ (u : In x (d ∷ [])). ⊎_elim
              (λ (same : x ≡ d). subst (EntryRight g (round_queue g i j)) (sym same)
              first_right) (λ (no : ⊥). absurd no) u)
              (in_append x q.taken (d ∷ []) t);
          placed = let a = old.placed in
              let b = ap length is in let f = length-append q.taken (d ∷ []) in omega arith;
          capacity = old.capacity;
          kept = λ k f. absurd (none-some k f);
          above = λ k f. absurd (none-some k f);
        };
      }))
    where
      r : PlainQueue
      r = taken_from d ds q

      keeps : is_some q.kept ≡ true → is_some r.kept ≡ true
      keeps h = absurd (false≢true (ap is_some (sym none) ∙ h))

      right : (x : Entry) → In x (d ∷ ds) → EntryRight g (round_queue g i j) x
      right = subst
          (λ (xs : List Entry). (x : Entry) → In x xs
          → EntryRight g (round_queue g i j) x) is old.waiting

      first_right : EntryRight g (round_queue g i j) d
      first_right = right d (inl refl)

      ordered : Ordered (d ∷ ds)
      ordered = subst Ordered is old.ordered

      near_start : g.bound d.leaf ≤ start_limit g
      near_start = let a = first_right.bound in let b = first_right.near in omega arith

      less : (l : ℕ) → waits l q ≡ one_if_same l d.leaf + waits l r
      less l = ap (entered l) is

      hand : (l : ℕ) → held l (scanned_by g w d.leaf v (ToAim j)) ≡ times l w.rest
      hand l = let a = scan_hand g (scan g v (g.members d.leaf) w.list) v l (ToAim j) in omega arith

      not_scanned : times d.leaf w.scanned ≡ 0
      not_scanned =
          let o = same_counts d.leaf in
          let b = less d.leaf in
          let a = waits_fresh g s sound (round_queue g i j) q d.leaf at_queue (omega arith) in
          let f = total_at (scans d.leaf) s.workers i w at in
          omega arith

      scans_it : after_pop g w j v (Leaf d) ≡ scanned_by g w d.leaf v (ToAim j)
      scans_it = cond-true (is_new d.leaf w && ltb d.leaf g.leaves)
          (scanned_by g w d.leaf v (ToAim j)) (in_phase (Aim j) w)
          (and_from (is_new d.leaf w) (ltb d.leaf g.leaves)
          (eq-eqb (times d.leaf w.scanned) 0 not_scanned) (lt-ltb d.leaf g.leaves first_right.real))

  -- a pop, by the kept limit and the waiting entries
  pop_of : (k : Option ℕ) (es : List Entry) → q.kept ≡ k → q.waiting ≡ es
      → Sound g (pop_done g i s w j v (pop_open v q k es))
  pop_of (Some k) es f is = pop_nothing q k (ap is_some f) refl refl old
  pop_of None [] f is =
      pop_shuts (subst (λ (xs : List Entry). (d : Entry) → In d xs → last g < d.bound) (sym is)
      (λ d t. absurd t))
  pop_of None (d ∷ ds) f is = cond_both (ltb v d.bound)
      (shut_with v q, Closed v)
      (taken_from d ds q, Leaf d)
      (λ (r : PlainQueue × PopReply). Sound g (pop_done g i s w j v r))
      (λ b. pop_shuts
      (subst (λ (xs : List Entry). (d : Entry) → In d xs → last g < d.bound) (sym is) (far b)))
      (λ _. pop_takes d ds f is)
    where
      far : ltb v d.bound ≡ true → (x : Entry) → In x (d ∷ ds) → last g < x.bound
      far b x t =
          let ordered : Ordered (d ∷ ds) = subst Ordered is old.ordered in
          let above = ltb-true v d.bound b in
          let low = draining.2.0 in
          ⊎_elim
          (λ (same : x ≡ d). let e = ap (λ (y : Entry). y.bound) same in omega arith)
          (λ (u : In x ds). let more = bound_order x d (ordered.0 x u) in omega arith)
          t

-- a pop
pub pop_sound : (g : Ground) → Fits g → (s : State) (i : ℕ) (w : Worker) (j v : ℕ) → Sound g s
    → slice_get s.workers i ≡ Some w → w.phase ≡ Pop j v → (o : Option PlainQueue)
    → slice_get s.queues (round_queue g i j) ≡ o → Sound g (pop_turn g i s w j v o)
pop_sound g fits s i w j v sound at e None f = sound
pop_sound g fits s i w j v sound at e (Some q) f =
    pop_of g fits s i w j v q sound at e f q.kept q.waiting refl refl
