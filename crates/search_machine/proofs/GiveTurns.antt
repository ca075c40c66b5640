-- A put keeps the state sound, whatever the reply.
use Rattle.std.proofs.Common.{None, Option, Some, ap, arith, ltb, refl, set, subst, sym, ℕ, ⊎_elim, ◌+◌, ◌<◌, ◌∙◌, ◌≡◌, ◌≤◌}
use Rattle.std.proofs.lemmas.Bool.{cond_both, false≢true}
use Rattle.std.proofs.lemmas.Option.{none-some}
use Rattle.std.specs.Prelude.{is_some, slice_get}
use Rattle.list_totals.specs.Totals.{one_if_same}
use Rattle.series_core.specs.declared.queue_words.PutReply.{PutReply}
use Rattle.series_core.specs.declared.queue_words.PutReply.TheVariants.{Filled, Placed}
use Rattle.leaf_queues.specs.PlainQueue.{PlainQueue, placed_in, put_open}
use Rattle.search_machine.specs.declared.phase.Phase.TheVariants.{Give, Late, Look}
use Rattle.search_machine.specs.Ground.{Fits, Ground, start_limit, entry_of, queue_of}
use Rattle.search_machine.specs.Machine.{State}
use Rattle.search_machine.proofs.Rows.{give_turn, put_done, with_queue}
use Rattle.search_machine.specs.Workers.{Worker, in_phase}
use Rattle.list_totals.specs.Standing.{In}
use Rattle.search_machine.specs.Sound.{PhaseSound, QueueSound, Sound, held, in_hand, takes, waits}
use Rattle.search_machine.specs.Basics.{EntryRight}
use Rattle.search_machine.proofs.Counts.{same_counts}
use Rattle.search_machine.proofs.Entries.{entered_place, in_placed, length_place, ordered_place}
use Rattle.search_machine.proofs.HandsAndScans.{held_fresh, held_real}
use Rattle.search_machine.proofs.Turns.{start_scanned, turned_together, worker_moves}

module _ (g : Ground) (fits : Fits g) (s : State) (i : ℕ) (w : Worker) (l : ℕ) (q : PlainQueue)
    (sound : Sound g s) (at : slice_get s.workers i ≡ Some w) (e : w.phase ≡ Give l)
    (at_queue : slice_get s.queues (queue_of g l) ≡ Some q) where
  -- the leaf is in the hand
  given_there : 0 < held l w
  given_there = let h = ap (in_hand l) e in let o = same_counts l in omega arith

  -- its bound is not above the starting limit
  given_near : g.bound l ≤ start_limit g
  given_near =
      subst (PhaseSound g s.claimed s.queues i w.rest w.list) e (sound.workers i w at).phase

  -- its entry is one of its queue
  given_right : EntryRight g (queue_of g l) (entry_of g l)
  given_right = record {
    bound = refl;
    real = held_real g s sound i w l at given_there;
    other = λ same.
        let some = start_scanned g s l fits sound same in
        let none = held_fresh g s sound i w l at given_there in
        omega arith;
    queue = refl;
    near = given_near;
  }

  -- the put was refused: the leaf stays in the hand
  give_refused : Sound g (with_queue (queue_of g l) q i (in_phase (Late l) w) s)
  give_refused =
      turned_together g s i (queue_of g l) w (in_phase (Late l) w) q q sound at at_queue (record {
        shut = λ h. h;
        fewer = λ m. let h = ap (in_hand m) e in omega arith;
        cut = λ m lost. let h = ap (in_hand m) e in absurd (omega arith);
        kept_scans = λ m. omega arith;
        taken = λ m. omega arith;
        worker = worker_moves g s.claimed s.claimed s.queues (set s.queues (queue_of g l) q) i w
            (Late l) w.rest (sound.workers i w at) given_near;
        queue = sound.queues (queue_of g l) q at_queue;
      })

  -- the put was placed
  give_placed : q.kept ≡ None → (r : PlainQueue) → r ≡ placed_in (entry_of g l) q
      → Sound g (with_queue (queue_of g l) r i (in_phase Look w) s)
  give_placed none r is =
      turned_together g s i (queue_of g l) w (in_phase Look w) q r sound at at_queue (record {
        shut = λ h. absurd (false≢true (ap is_some (sym none) ∙ h));
        fewer = λ m. let h = ap (in_hand m) e in let p = more m in omega arith;
        cut = λ m lost. let h = ap (in_hand m) e in let p = more m in absurd (omega arith);
        kept_scans = λ m. omega arith;
        taken = λ m. let p : takes m r ≡ takes m q = ap (takes m) is in omega arith;
        worker = worker_moves g s.claimed s.claimed s.queues (set s.queues (queue_of g l) r) i w
            Look
            w.rest (sound.workers i w at) tt;
        queue = subst (QueueSound g (queue_of g l)) (sym is) (record {
          ordered = ordered_place (entry_of g l) q.waiting old.ordered;
          waiting = λ x t. ⊎_elim
              (λ (same : x ≡ entry_of g l). subst (EntryRight g (queue_of g l)) (sym same)
              given_right)
              (λ (u : In x q.waiting). old.waiting x u)
              (in_placed x (entry_of g l) q.waiting t);
          taken = old.taken;
          placed = let p = length_place (entry_of g l) q.waiting in
              let o = old.placed in omega arith;
          capacity = old.capacity;
          kept = λ v f. absurd (none-some v f);
          above = λ v f. absurd (none-some v f);
        });
      })
    where
      old : QueueSound g (queue_of g l) q
      old = sound.queues (queue_of g l) q at_queue

      more : (m : ℕ) → waits m r ≡ one_if_same m l + waits m q
      more m = ap (waits m) is ∙ entered_place m (entry_of g l) q.waiting

  -- a put, by the kept limit
  give_open : (k : Option ℕ) → q.kept ≡ k
      → Sound g (put_done g i s w l (put_open (entry_of g l) q k))
  give_open (Some v) f = give_refused
  give_open None f = cond_both (ltb q.placed q.capacity)
      (placed_in (entry_of g l) q, Placed)
      (q, Filled q.capacity)
      (λ (r : PlainQueue × PutReply). Sound g (put_done g i s w l r))
      (λ _. give_placed f (placed_in (entry_of g l) q) refl)
      (λ _. give_refused)

-- a put
pub give_sound : (g : Ground) → Fits g → (s : State) (i : ℕ) (w : Worker) (l : ℕ) → Sound g s
    → slice_get s.workers i ≡ Some w → w.phase ≡ Give l → (o : Option PlainQueue)
    → slice_get s.queues (queue_of g l) ≡ o → Sound g (give_turn g i s w l o)
give_sound g fits s i w l sound at e None f = sound
give_sound g fits s i w l sound at e (Some q) f =
    give_open g fits s i w l q sound at e f q.kept refl
