-- What a worker has in its hand and rest before and after a look or a scan.
use Rattle.std.proofs.Common.{List, Some, [], arith, inr, leb, length, ltb, refl, subst, sym, ℕ, ⊎_elim, ◌<◌, ◌∷◌, ◌≡◌, ◌≤◌}
use Rattle.std.proofs.lemmas.Bool.{and_parts, cond_both, leb-true, ltb-false, ltb-true}
use Rattle.std.specs.Prelude.{slice_get}
use Rattle.list_totals.specs.Totals.{one_if_same, times, total}
use Rattle.series_core.specs.declared.pair.Pair.{Pair}
use Rattle.leaf_queues.specs.PlainQueue.{PlainQueue}
use Rattle.search_machine.specs.declared.phase.Onward.{Onward}
use Rattle.search_machine.specs.declared.phase.Onward.TheVariants.{Aim as ToAim, Look as ToLook}
use Rattle.search_machine.specs.declared.phase.Phase.TheVariants.{Offer}
use Rattle.search_machine.specs.Ground.{Fits, Ground, last, scan, start_limit, worst}
use Rattle.search_machine.specs.Machine.{State}
use Rattle.search_machine.specs.Workers.{Worker, after_scan, improves, onward, scanned_by, skip, stopped}
use Rattle.search_machine.specs.Sound.{OnwardSound, PhaseSound, Sound, WorkerSound, held, in_hand, scans, waits}
use Rattle.search_machine.proofs.Counts.{counts_or_not, times_cons}
use Rattle.search_machine.proofs.Places.{total_at}
use Rattle.search_machine.proofs.Scans.{list_scanned}

module _ (g : Ground) (s : State) (sound : Sound g s) where
  -- a leaf that a worker holds is not scanned
  pub held_fresh : (i : ℕ) (w : Worker) (l : ℕ) → slice_get s.workers i ≡ Some w → 0 < held l w
      → total (scans l) s.workers ≡ 0
  held_fresh i w l at h = omega (arith, sound.once l, total_at (held l) s.workers i w at)

  -- it is a leaf
  pub held_real : (i : ℕ) (w : Worker) (l : ℕ) → slice_get s.workers i ≡ Some w → 0 < held l w
      → l < g.leaves
  held_real i w l at h = sound.real l (omega (arith, total_at (held l) s.workers i w at))

  -- a leaf that waits is not scanned
  pub waits_fresh : (m : ℕ) (q : PlainQueue) (l : ℕ) → slice_get s.queues m ≡ Some q → 0 < waits l q
      → total (scans l) s.workers ≡ 0
  waits_fresh m q l at h = omega (arith, sound.once l, total_at (waits l) s.queues m q at)

-- where the worker goes on, what holds by the phase holds
pub onward_phase : (g : Ground) (c : ℕ) (qs : List PlainQueue) (i : ℕ) (ls : List ℕ)
    (ps : List Pair)
    (next : Onward) → OnwardSound g c qs i ls next → PhaseSound g c qs i ls ps (onward next)
onward_phase g c qs i ls ps ToLook h = tt
onward_phase g c qs i ls ps (ToAim j) h = h

-- going on, it has nothing in its hand
pub onward_hand : (l : ℕ) (next : Onward) → in_hand l (onward next) ≡ 0
onward_hand l ToLook = refl
onward_hand l (ToAim j) = refl

-- after a scan it has nothing in its hand
pub scan_hand : (g : Ground) (ps : List Pair) (v l : ℕ) (next : Onward)
    → in_hand l (after_scan g ps v next) ≡ 0
scan_hand g ps v l next =
    cond_both (improves g ps v) (Offer next) (onward next) (λ p. in_hand l p ≡ 0) (λ _. refl)
    (λ _. onward_hand l next)

-- a worker that scanned a leaf with a limit of at least the last distance is sound
pub worker_scanned : (g : Ground) → Fits g → (c d : ℕ) (rs qs : List PlainQueue) (i : ℕ)
    (w : Worker) (l v : ℕ) (next : Onward) → WorkerSound g c rs i w → l < g.leaves
    → times l w.scanned ≡ 0 → g.bound l ≤ start_limit g → last g ≤ v
    → OnwardSound g d qs i w.rest next → WorkerSound g d qs i (scanned_by g w l v next)
worker_scanned g fits c d rs qs i w l v next me real unscanned near_start enough h = record {
  list = list_scanned g fits (Unit {0}) l v w.scanned w.list real unscanned (λ _. enough) me.list;
  near = λ m there. ⊎_elim
      (λ (e : m ≡ l). inr (subst (λ (n : ℕ). g.bound n ≤ start_limit g) (sym e) near_start))
      (λ (t : 0 < times m w.scanned). me.near m t)
      (times_cons m l w.scanned there);
  start = λ m z e. let a = me.start m z e in omega arith;
  phase = cond_both (improves g ps v) (Offer next) (onward next) (PhaseSound g d qs i w.rest ps)
      (λ e. (
        leb-true g.k (length ps) (and_parts (leb g.k (length ps)) (ltb (worst g ps) v) e).0,
        h,
      ))
      (λ _. onward_phase g d qs i w.rest ps next h);
}
  where
    ps : List Pair
    ps = scan g v (g.members l) w.list

-- what is left after the front is dropped stood there
pub skip_fewer : (g : Ground) (v l : ℕ) (ls : List ℕ) → times l (skip g v ls) ≤ times l ls
skip_fewer g v l [] = omega arith
skip_fewer g v l (m ∷ ms) =
    cond_both (ltb v (g.bound m)) (skip g v ms) (m ∷ ms) (λ r. times l r ≤ times l (m ∷ ms))
    (λ _. let h = skip_fewer g v l ms in omega arith)
    (λ _. omega arith)

-- what was dropped has a bound above the limit
pub skip_cut : (g : Ground) (v l : ℕ) (ls : List ℕ) → times l (skip g v ls) < times l ls
    → v < g.bound l
skip_cut g v l [] = λ h. absurd (omega arith)
skip_cut g v l (m ∷ ms) =
    cond_both (ltb v (g.bound m)) (skip g v ms) (m ∷ ms)
    (λ r. times l r < times l (m ∷ ms) → v < g.bound l)
    (λ e h. ⊎_elim
    (λ (c : (one_if_same l m ≡ 1) × (l ≡ m)). subst
    (λ (n : ℕ). v < g.bound n) (sym c.1) (ltb-true v (g.bound m) e))
    (λ (c : one_if_same l m ≡ 0). skip_cut g v l ms (omega arith))
    (counts_or_not l m))
    (λ _ h. absurd (omega arith))

-- the first that is left has a bound not above the limit
pub skip_head : (g : Ground) (v l : ℕ) (ls rs : List ℕ) → skip g v ls ≡ l ∷ rs → g.bound l ≤ v
skip_head g v l [] rs = λ h. absurd (cc)
skip_head g v l (m ∷ ms) rs =
    cond_both (ltb v (g.bound m)) (skip g v ms) (m ∷ ms) (λ r. r ≡ l ∷ rs → g.bound l ≤ v)
    (λ _ h. skip_head g v l ms rs h)
    (λ e h. let same : m ≡ l = cc in
    subst (λ (n : ℕ). g.bound n ≤ v) same (ltb-false v (g.bound m) e))

-- stopping scans nothing
pub stopped_scans : (w : Worker) (ls : List ℕ) (l : ℕ) → scans l (stopped w ls) ≡ scans l w
stopped_scans w [] l = refl
stopped_scans w (m ∷ ms) l = refl

-- what is left is in the rest or in the hand
pub stopped_held : (w : Worker) (ls : List ℕ) (l : ℕ) → held l (stopped w ls) ≡ times l ls
stopped_held w [] l = omega arith
stopped_held w (m ∷ ms) l = omega arith
