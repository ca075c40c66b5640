-- Each leaf is scanned once at most, and not while it waits in a closed queue.
use Rattle.std.proofs.Common.{List, Some, arith, sym, ℕ, ⊎_elim, ◌+◌, ◌<◌, ◌∙◌, ◌≡◌, ◌≤◌, ◌⊎◌}
use Rattle.std.specs.Prelude.{slice_get}
use Rattle.list_totals.specs.Totals.{total}
use Rattle.leaf_queues.specs.PlainQueue.{PlainQueue}
use Rattle.search_machine.specs.Closes.{Closes}
use Rattle.search_machine.specs.Ground.{Fits, Ground}
use Rattle.search_machine.specs.OwnRecord.{RecordedWorker, WasRefused, WasTaken}
use Rattle.search_machine.specs.Sound.{takes, waits}
use Rattle.search_machine.proofs.CallCounts.{scans_by}
use Rattle.search_machine.proofs.ClosedQueues.{in_queue, put_other, queue_once, refused_is, refused_put, refused_some, same_taker, taken_in, taken_put}
use Rattle.search_machine.proofs.Places.{at_most_one, total_add, total_at, total_some}
use Rattle.search_machine.proofs.PutsOnce.{put_below, same_claimer}

module _ (g : Ground) (fits : Fits g) (team : List RecordedWorker) (qs : List PlainQueue)
    (c : Closes g team qs) where
  -- of one leaf one member's put was refused
  same_refused : (l i j : ℕ) (x y : RecordedWorker) → slice_get team i ≡ Some x → slice_get team j ≡ Some y
      → WasRefused x.own l → WasRefused y.own l → i ≡ j
  same_refused l i j x y a b h k =
      let p = refused_some g fits team qs c x l h in
      let q = refused_some g fits team qs c y l k in
      let r = refused_put g fits team qs c x l in
      let s = refused_put g fits team qs c y l in
      same_claimer g fits team c.stands c.claims l i j x y a b
      (put_below g fits team c.stands c.claims i x l a (omega arith)).0
      (put_below g fits team c.stands c.claims j y l b (omega arith)).0

  -- why member i scanned leaf l
  abbrev why : ℕ → RecordedWorker → ℕ → Type 0
  why i x l = ((i ≡ 0) × (g.start ≡ Some l)) ⊎ WasTaken x.own l ⊎ WasRefused x.own l

  -- of one leaf there is one scanner
  same_scanner : (l i j : ℕ) (x y : RecordedWorker) → slice_get team i ≡ Some x → slice_get team j ≡ Some y
      → why i x l → why j y l → i ≡ j
  same_scanner l i j x y a b h k = ⊎_elim
      (λ (s : (i ≡ 0) × (g.start ≡ Some l)). ⊎_elim
      (λ (t : (j ≡ 0) × (g.start ≡ Some l)). s.0 ∙ sym t.0)
      (λ (t : WasTaken y.own l ⊎ WasRefused y.own l). absurd
      (put_other g fits team qs c l
      (⊎_elim (λ u. (taken_put g fits team qs c j y l b u).0)
      (λ u. (refused_is g fits team qs c j y l b u).1) t) s.1))
      k)
      (λ (s : WasTaken x.own l ⊎ WasRefused x.own l). ⊎_elim
      (λ (t : (j ≡ 0) × (g.start ≡ Some l)). absurd
      (put_other g fits team qs c l
      (⊎_elim (λ u. (taken_put g fits team qs c i x l a u).0)
      (λ u. (refused_is g fits team qs c i x l a u).1) s) t.1))
      (λ (t : WasTaken y.own l ⊎ WasRefused y.own l). ⊎_elim
      (λ (u : WasTaken x.own l). ⊎_elim
      (λ (v : WasTaken y.own l). same_taker g fits team qs c l i j x y a b u v)
      (λ (v : WasRefused y.own l). let p = (taken_put g fits team qs c i x l a u).1 in
      let q = (refused_is g fits team qs c j y l b v).0 in absurd (omega arith))
      t)
      (λ (u : WasRefused x.own l). ⊎_elim
      (λ (v : WasTaken y.own l). let p = (taken_put g fits team qs c j y l b v).1 in
      let q = (refused_is g fits team qs c i x l a u).0 in absurd (omega arith))
      (λ (v : WasRefused y.own l). same_refused l i j x y a b u v)
      t)
      s)
      k)
      h

  -- no leaf is scanned twice
  pub scan_once : (l : ℕ) → total (scans_by l) team ≤ 1
  scan_once l = at_most_one (scans_by l) team
      (λ i x at. (c.stands i x at).single l)
      (λ i j x y a b h k. same_scanner l i j x y a b ((c.stands i x a).scanned l h)
      ((c.stands j y b).scanned l k))

  -- no leaf waits or was taken twice
  pub both_once : (l : ℕ) → total (waits l) qs + total (takes l) qs ≤ 1
  both_once l = let a = queue_once g fits team qs c l in
      let b = total_add (waits l) (takes l) qs in omega arith

  -- a leaf that waits is not scanned
  pub waits_unscanned : (l : ℕ) → 0 < total (waits l) qs → 0 < total (scans_by l) team → ⊥
  waits_unscanned l h k =
      let q = total_some (waits l) qs h in
      let in_q = in_queue g fits team qs c q.0 q.1 l q.2 (let a = q.3 in omega arith) in
      let x = total_some (scans_by l) team k in
      ⊎_elim
      (λ (s : (x.0 ≡ 0) × (g.start ≡ Some l)). put_other g fits team qs c l in_q.1 s.1)
      (λ (s : WasTaken x.1.own l ⊎ WasRefused x.1.own l). ⊎_elim
      (λ (t : WasTaken x.1.own l).
      let r = taken_in g fits team qs c x.0 x.1 l x.2 t in
      let a = total_at (takes l) qs r.0 r.1 r.2 in
      let b = both_once l in
      let d = r.4 in
      absurd (omega arith))
      (λ (t : WasRefused x.1.own l). let r = (refused_is g fits team qs c x.0 x.1 l x.2 t).0 in
      let a = in_q.2 in absurd (omega arith))
      s)
      ((c.stands x.0 x.1 x.2).scanned l x.3)
