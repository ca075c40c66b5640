-- The closed objects and the members make a sound state in which all are done, so its outcome is
-- legal.
use Rattle.std.proofs.Common.{List, Some, ap, arith, inl, inr, length, map, subst, sym, ℕ, ⊎_elim, ◌<◌, ◌∙◌, ◌≡◌, ◌≤◌, ◌⊎◌}
use Rattle.std.proofs.lemmas.Bool.{cases_lt}
use Rattle.std.proofs.lemmas.List.{length-map}
use Rattle.std.specs.Prelude.{is_some, slice_get}
use Rattle.list_totals.specs.Totals.{total}
use Rattle.series_core.specs.declared.queue_words.Entry.{Entry}
use Rattle.leaf_queues.specs.PlainQueue.{PlainQueue}
use Rattle.search_machine.specs.Closes.{CameByPut, Closes, QueueCloses, final, puts_by}
use Rattle.search_machine.specs.Ground.{Fits, Ground, start_limit}
use Rattle.search_machine.specs.Legal.{Legal}
use Rattle.search_machine.specs.Workers.{Worker, round_queue}
use Rattle.list_totals.specs.Standing.{In}
use Rattle.search_machine.specs.Outcome.{AllDone, outcome}
use Rattle.search_machine.specs.OwnRecord.{RecordedWorker, Near, PutRight, WasClosed, WasRefused, WasTaken}
use Rattle.search_machine.specs.Sound.{IsShut, PhaseSound, QueueSound, Sound, WorkerSound, takes, waits}
use Rattle.search_machine.specs.Basics.{Between, EntryRight}
use Rattle.search_machine.specs.Stands.{Stands}
use Rattle.search_machine.proofs.CallCounts.{scans_by}
use Rattle.search_machine.proofs.ClosedPlaces.{nowhere, own_done, places_is, put_real, scans_is, taken_scanned}
use Rattle.search_machine.proofs.ClosedQueues.{in_queue, refused_is, taken_put}
use Rattle.search_machine.proofs.ClosedScans.{both_once, scan_once, waits_unscanned}
use Rattle.search_machine.proofs.Ending.{ending_legal}
use Rattle.search_machine.proofs.OwnLate.{below_real}
use Rattle.search_machine.proofs.Places.{get_map, total_some}
use Rattle.search_machine.proofs.PutsOnce.{put_below}
use Rattle.search_machine.proofs.Scans.{last_start}

module _ (g : Ground) (fits : Fits g) (team : List RecordedWorker) (qs : List PlainQueue)
    (c : Closes g team qs) where
  -- a worker of the final state is a member's
  member_at : (i : ℕ) (w : Worker) → slice_get (map (λ (x : RecordedWorker). x.worker) team) i ≡ Some w
      → (x : RecordedWorker) × (slice_get team i ≡ Some x) × (x.worker ≡ w)
  member_at i w e = get_map (λ (x : RecordedWorker). x.worker) team i w e

  -- a near leaf has a bound not above the starting limit
  near_limit : (i : ℕ) (x : RecordedWorker) (l : ℕ) → slice_get team i ≡ Some x → Near g x.own l
      → g.bound l ≤ start_limit g
  near_limit i x l at h = let a = (c.reads i x h.0 at h.1).1 in let b = h.2 in omega arith

  -- so has a leaf that was put
  put_limit : (l : ℕ) → 0 < total (puts_by l) team → g.bound l ≤ start_limit g
  put_limit l h = let r = total_some (puts_by l) team h in
      near_limit r.0 r.1 l r.2 (put_below g fits team c.stands c.claims r.0 r.1 l r.2 r.3).1

  -- a queue that gave a Closed reply is shut
  closed_shut : (i : ℕ) (x : RecordedWorker) (m : ℕ) → slice_get team i ≡ Some x → WasClosed x.own m
      → IsShut qs m
  closed_shut i x m at h q e = let k = (c.queues m q e).shut i x at h in ap is_some k.1

  -- each worker is sound
  final_worker : (i : ℕ) (x : RecordedWorker) → slice_get team i ≡ Some x
      → WorkerSound g (length g.roots) qs i x.worker
  final_worker i x at = record {
    list = record {
      ascending = stands.list.ascending;
      known = stands.list.known;
      from = stands.list.from;
      full = λ _ p l a m n. stands.list.full (λ v h. (c.reads i x v at h).0) p l a m n;
    };
    near = λ l h. ⊎_elim
        (λ (e : (i ≡ 0) × (g.start ≡ Some l)). inl e.1)
        (λ (e : WasTaken x.own l ⊎ WasRefused x.own l). inr
        (put_limit l
        (⊎_elim (λ (t : WasTaken x.own l). (taken_put g fits team qs c i x l at t).0)
        (λ (t : WasRefused x.own l). (refused_is g fits team qs c i x l at t).1) e)))
        (stands.scanned l h);
    start = stands.opening;
    phase = subst (PhaseSound g (length g.roots) qs i x.worker.rest x.worker.list)
        (sym (c.done i x at)) (record {
          claimed = omega arith;
          rest = (own_done g fits team qs c i x at).rest;
          shut = λ n low. closed_shut i x (round_queue g i n) at
              ((own_done g fits team qs c i x at).closed n low);
        });
  }
    where
      stands : Stands g i x.worker x.own
      stands = c.stands i x at

  -- each entry of a closed queue is right
  entry_right : (m : ℕ) (q : PlainQueue) → slice_get qs m ≡ Some q → (e : Entry)
      → In e q.waiting ⊎ In e q.taken → EntryRight g m e
  entry_right m q at e h = subst (EntryRight g m) r.such.1 (record {
    bound = ap (λ (d : Entry). d.bound) right.entry;
    real = below_real g fits r.member.own r.made.entry.leaf right.below;
    other = right.other;
    queue = sym right.queue ∙ r.such.0;
    near =
        let a = near_limit r.place r.member r.made.entry.leaf r.at right.near in
        let b = ap (λ (d : Entry). d.bound) right.entry in
        omega arith;
  })
    where
      r : CameByPut team m e
      r = (c.queues m q at).came e h

      right : PutRight g r.member.own r.made
      right = (c.stands r.place r.member r.at).puts r.made r.has

  -- each kept limit is one that may be read
  kept_between : (m : ℕ) (q : PlainQueue) → slice_get qs m ≡ Some q → (v : ℕ) → q.kept ≡ Some v
      → Between g v
  kept_between m q at v e =
      let r = (c.queues m q at).kept v e in
      subst (Between g) r.such
      (c.reads r.place r.member r.made.limit r.at
      ((c.stands r.place r.member r.at).pops r.made r.has).0)

  -- each closed queue is sound
  final_queue : (m : ℕ) (q : PlainQueue) → slice_get qs m ≡ Some q → QueueSound g m q
  final_queue m q at = record {
    ordered = k.ordered;
    waiting = λ e h. entry_right m q at e (inl h);
    taken = λ e h. entry_right m q at e (inr h);
    placed = k.placed;
    capacity = k.capacity;
    kept = kept_between m q at;
    above = λ v e d h. let low = (kept_between m q at v e).0 in
        let far = k.above v e d h in omega arith;
  }
    where
      k : QueueCloses g team m q
      k = c.queues m q at

  -- the final state is sound
  pub final_sound : Sound g (final g team qs)
  final_sound = record {
    word = (last_start g fits, omega arith);
    once = λ l. let a = places_is g fits team qs c l in
        let b = scan_once g fits team qs c l in let d = both_once g fits team qs c l in ⊎_elim
        (λ (h : 0 < total (waits l) qs). ⊎_elim
        (λ (k : 0 < total (scans_by l) team). absurd (waits_unscanned g fits team qs c l h k))
        (λ (k : total (scans_by l) team ≤ 0). omega arith)
        (cases_lt 0 (total (scans_by l) team)))
        (λ (h : total (waits l) qs ≤ 0). omega arith)
        (cases_lt 0 (total (waits l) qs));
    real = λ l h. let a = places_is g fits team qs c l in ⊎_elim
        (λ (k : 0 < total (waits l) qs). let q = total_some (waits l) qs k in
        put_real g fits team qs c l
        (in_queue g fits team qs c q.0 q.1 l q.2 (let b = q.3 in omega arith)).1)
        (λ (k : total (waits l) qs ≤ 0).
        let x = total_some (scans_by l) team (omega arith) in
        ⊎_elim
        (λ (e : (x.0 ≡ 0) × (g.start ≡ Some l)). fits.start_real l e.1)
        (λ (e : WasTaken x.1.own l ⊎ WasRefused x.1.own l). put_real g fits team qs c l
        (⊎_elim (λ (t : WasTaken x.1.own l). (taken_put g fits team qs c x.0 x.1 l x.2 t).0)
        (λ (t : WasRefused x.1.own l). (refused_is g fits team qs c x.0 x.1 l x.2 t).1) e))
        ((c.stands x.0 x.1 x.2).scanned l x.3))
        (cases_lt 0 (total (waits l) qs));
    cut = λ l low none. let a = places_is g fits team qs c l in
        nowhere g fits team qs c l low (omega arith) (omega arith);
    taken = λ l. let a = scans_is g fits team qs c l in
        let b = both_once g fits team qs c l in ⊎_elim
        (λ (h : 0 < total (takes l) qs). let k = taken_scanned g fits team qs c l h in omega arith)
        (λ (h : total (takes l) qs ≤ 0). omega arith)
        (cases_lt 0 (total (takes l) qs));
    workers = λ i w e. let r = member_at i w e in
        subst (WorkerSound g (length g.roots) qs i) r.2 (final_worker i r.0 r.1);
    queues = final_queue;
    queue_count = c.queue_count;
    worker_count = length-map team (λ (x : RecordedWorker). x.worker) ∙ c.members;
  }

  -- in it all workers are done
  pub final_done : AllDone (final g team qs)
  final_done i w e = let r = member_at i w e in
      ap (λ (x : Worker). x.phase) (sym r.2) ∙ c.done i r.0 r.1

  -- so its outcome is legal
  pub closed_legal : Legal g (outcome g (final g team qs))
  closed_legal = ending_legal g fits (final g team qs) final_sound final_done
