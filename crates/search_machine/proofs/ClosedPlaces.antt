-- Where a leaf is in the end: it waits in a closed queue, is scanned, or was cut.
use Rattle.std.proofs.Common.{List, None, Option, Some, ap, arith, eqb, length, map, refl, subst, sym, true, ℕ, ⊎_elim, ◌&&◌, ◌+◌, ◌<◌, ◌≡◌, ◌⊎◌}
use Rattle.std.proofs.Math.Nat.{mod-lt}
use Rattle.std.proofs.Math.Seq.{drop-length}
use Rattle.std.proofs.lemmas.Bool.{and_from, cond-true, eq-eqb}
use Rattle.std.proofs.lemmas.Option.{slice_get_within}
use Rattle.std.specs.Prelude.{not, slice_get}
use Rattle.list_totals.proofs.Totals.{total_map}
use Rattle.list_totals.specs.Totals.{one_if_same, times, total}
use Rattle.leaf_queues.specs.PlainQueue.{PlainQueue}
use Rattle.search_machine.specs.Closes.{Closes, claimed_by, final, placed_by, placed_of, popped_by, popped_of, puts_by}
use Rattle.search_machine.specs.Ground.{Fits, Ground, last}
use Rattle.search_machine.specs.Workers.{without}
use Rattle.list_totals.specs.Standing.{In}
use Rattle.search_machine.specs.OwnRecord.{Below, Far, RecordedWorker, WasPut, claims_of, is_refused}
use Rattle.search_machine.specs.Sound.{held, in_hand, places, scans, takes, unclaimed, waits}
use Rattle.search_machine.specs.Stands.{OwnDrains, OwnPhase, in_late}
use Rattle.search_machine.proofs.CallCounts.{not_refused, popped_is, scans_by}
use Rattle.search_machine.proofs.ClosedQueues.{in_queue}
use Rattle.search_machine.proofs.Counts.{counts_or_not, same_counts}
use Rattle.list_totals.proofs.Standing.{in_total, total_in}
use Rattle.search_machine.proofs.Places.{get_some, total_at, total_none, total_some}
use Rattle.search_machine.proofs.PutsOnce.{put_below}

module _ (g : Ground) (fits : Fits g) (team : List RecordedWorker) (qs : List PlainQueue)
    (c : Closes g team qs) where
  -- a put leaf is real
  pub put_real : (l : ℕ) → 0 < total (puts_by l) team → l < g.leaves
  put_real l h =
      let r = total_some (puts_by l) team h in
      let b = (put_below g fits team c.stands c.claims r.0 r.1 l r.2 r.3).0 in
      let a = total_at (times l) g.roots b.0 b.1 b.3 in
      let d = b.4 in
      fits.below_real l (omega arith)

  -- a leaf that a queue gave was scanned by who took it
  pub taken_scanned : (l : ℕ) → 0 < total (takes l) qs → 0 < total (scans_by l) team
  taken_scanned l h =
      let q = total_some (takes l) qs h in
      let in_q = in_queue g fits team qs c q.0 q.1 l q.2 (let a = q.3 in omega arith) in
      let a = (c.queues q.0 q.1 q.2).popped l in
      let x = total_some (popped_by q.0 l) team (let b = q.3 in omega arith) in
      let p = total_in (popped_of q.0 l) x.1.own.pops x.3 in
      let e = popped_is q.0 l p.0 p.2 in
      let s = (c.stands x.0 x.1 x.2).taken l (put_real l in_q.1) (p.0, e.0, p.1, e.1, e.2) in
      let t = total_at (scans_by l) team x.0 x.1 x.2 in
      omega arith

  -- the scans of the final state are those of the members
  pub scans_is : (l : ℕ)
      → total (scans l) (map (λ (x : RecordedWorker). x.worker) team) ≡ total (scans_by l) team
  scans_is l = total_map (scans l) (λ (x : RecordedWorker). x.worker) team

  -- each member has ended
  pub own_done : (i : ℕ) (x : RecordedWorker) → slice_get team i ≡ Some x
      → OwnDrains g x.own i g.queues x.worker.rest
  own_done i x at =
      subst (OwnPhase g x.own i x.worker.rest x.worker.list) (c.done i x at) (c.stands i x at).phase

  -- in the final state a leaf waits or is scanned, or is nowhere
  pub places_is : (l : ℕ)
      → places g (final g team qs) l ≡ total (waits l) qs + total (scans_by l) team
  places_is l =
      let a = scans_is l in
      let b : unclaimed g (length g.roots) l ≡ 0 = ap
      (λ (rs : List (List ℕ)). total (λ (r : List ℕ). times l (without g.start r)) rs)
      (drop-length g.roots) in
      let d = total_map (held l) (λ (x : RecordedWorker). x.worker) team in
      let e = total_none (λ (x : RecordedWorker). held l x.worker) team
      (λ i x at. let r = ap (times l) (own_done i x at).rest in
      let p = ap (in_hand l) (c.done i x at) in omega arith) in
      omega arith

  -- a leaf that is nowhere was cut
  pub nowhere : (l : ℕ) → l < g.leaves → total (waits l) qs ≡ 0 → total (scans_by l) team ≡ 0
      → last g < g.bound l
  nowhere l low none unscanned =
      let root = total_some (times l) g.roots (fits.below_root l low) in
      let first = get_some team 0 (let a = c.members in let b = fits.some_worker in omega arith) in
      let ended = (own_done 0 first.0 first.1).ended in
      let claimer = total_some (claimed_by root.0) team
      (c.all_claimed 0 first.0 root.0 first.1 ended (slice_within root.0 root.1 root.2)) in
      let drawn = total_in (claims_of root.0) claimer.1.own.claims claimer.3 in
      let below : Below g claimer.1.own
      l = (
        root.0,
        root.1,
        drawn_some root.0 drawn.0 drawn.2 claimer.1.own.claims drawn.1,
        root.2,
        root.3,
      ) in
      let stands = c.stands claimer.0 claimer.1 claimer.2 in
      let mine = total_at (scans_by l) team claimer.0 claimer.1 claimer.2 in
      ⊎_elim
      (λ (start : g.start ≡ Some l).
      let a = (c.stands 0 first.0 first.1).opening l refl start in
      let b = total_at (scans_by l) team 0 first.0 first.1 in
      absurd (omega arith))
      (λ (o : (0 < held l claimer.1.worker) ⊎ WasPut claimer.1.own l ⊎ Far g claimer.1.own l).
      ⊎_elim
      (λ (h : 0 < held l claimer.1.worker). let a = ap (times l)
      (own_done claimer.0 claimer.1 claimer.2).rest in
      let b = ap (in_hand l) (c.done claimer.0 claimer.1 claimer.2) in absurd (omega arith))
      (λ (u : WasPut claimer.1.own l ⊎ Far g claimer.1.own l). ⊎_elim
      (λ (p : WasPut claimer.1.own l). ⊎_elim
      (λ (r : is_refused p.0.reply ≡ true). ⊎_elim
      (λ (h : 0 < times l claimer.1.worker.scanned). absurd (omega arith))
      (λ (f : (0 < in_late l claimer.1.worker.phase) ⊎ Far g claimer.1.own l). ⊎_elim
      (λ (h : 0 < in_late l claimer.1.worker.phase). let a = ap (in_late l)
      (c.done claimer.0 claimer.1 claimer.2) in absurd (omega arith))
      (λ (h : Far g claimer.1.own l). far claimer.0 claimer.1 claimer.2 h)
      f)
      (stands.refused l (p.0, p.1, p.2, r)))
      (λ (r : not (is_refused p.0.reply) ≡ true). absurd (lost claimer.0 claimer.1 claimer.2 p r))
      (not_refused p.0.reply))
      (λ (h : Far g claimer.1.own l). far claimer.0 claimer.1 claimer.2 h)
      u)
      o)
      (stands.covers l below)
    where
      slice_within : (n : ℕ) (r : List ℕ) → slice_get g.roots n ≡ Some r → n < length g.roots
      slice_within n r e = slice_get_within g.roots n r e

      drawn_some : (n : ℕ) (o : Option ℕ) → 0 < claims_of n o → (os : List (Option ℕ)) → In o os
          → In (Some n) os
      drawn_some n None h os i = absurd (omega arith)
      drawn_some n (Some m) h os i =
          ⊎_elim (λ (d : (one_if_same n m ≡ 1) × (n ≡ m)). subst
          (λ (k : ℕ). In (Some k) os) (sym d.1) i)
          (λ (d : one_if_same n m ≡ 0). absurd (omega arith)) (counts_or_not n m)

      far : (i : ℕ) (x : RecordedWorker) → slice_get team i ≡ Some x → Far g x.own l → last g < g.bound l
      far i x at h = let a = (c.reads i x h.0 at h.1).0 in let b = h.2 in omega arith

      lost : (i : ℕ) (x : RecordedWorker) → slice_get team i ≡ Some x → (p : WasPut x.own l)
          → not (is_refused p.0.reply) ≡ true → ⊥
      lost i x at p r =
          let right = (c.stands i x at).puts p.0 p.1 in
          let q = get_some qs p.0.queue (let a = right.queue in
          let b = mod-lt p.0.entry.leaf fits.some_queue in
          let d = c.queue_count in omega arith) in
          let one_put : placed_of p.0.queue l p.0
          ≡ one_if_same l p.0.entry.leaf =
          cond-true (eqb p.0.queue p.0.queue && not (is_refused p.0.reply))
          (one_if_same l p.0.entry.leaf) 0
          (and_from (eqb p.0.queue p.0.queue) (not (is_refused p.0.reply))
          (eq-eqb p.0.queue p.0.queue refl) r) in
          let same : one_if_same l p.0.entry.leaf ≡ one_if_same l l = ap (one_if_same l) p.2 in
          let o = same_counts l in
          let a = in_total (placed_of p.0.queue l) p.0 x.own.puts p.1 in
          let b = total_at (placed_by p.0.queue l) team i x at in
          let d = (c.queues p.0.queue q.0 q.1).put l in
          let w = total_at (waits l) qs p.0.queue q.0 q.1 in
          let t = total_at (takes l) qs p.0.queue q.0 q.1 in
          let k = taken_scanned l (omega arith) in
          omega arith
