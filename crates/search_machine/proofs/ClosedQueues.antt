-- What the closed queues have: leaves that were put, each once, and taken by one member.
use Rattle.std.proofs.Common.{List, Some, ap, arith, subst, sym, ℕ, ⊎_elim, ◌+◌, ◌<◌, ◌∙◌, ◌≡◌, ◌≢◌, ◌≤◌}
use Rattle.std.proofs.lemmas.Bool.{cases_eq, cond-true}
use Rattle.std.specs.Prelude.{slice_get}
use Rattle.list_totals.specs.Totals.{one_if_same, total}
use Rattle.leaf_queues.specs.PlainQueue.{PlainQueue}
use Rattle.search_machine.specs.Closes.{Closes, placed_by, placed_of, popped_by, popped_of, puts_by}
use Rattle.search_machine.specs.Ground.{Fits, Ground, queue_of}
use Rattle.search_machine.specs.OwnRecord.{RecordedWorker, WasRefused, WasTaken, is_refused, put_of}
use Rattle.search_machine.specs.Sound.{takes, waits}
use Rattle.search_machine.proofs.CallCounts.{both_of, placed_is, popped_some, refusals_by, refused_of}
use Rattle.search_machine.proofs.Counts.{same_counts}
use Rattle.list_totals.proofs.Standing.{in_total, total_in}
use Rattle.search_machine.proofs.Places.{at_most_one, get_some, total_at, total_most, total_some, total_two}
use Rattle.search_machine.proofs.PutsOnce.{placed_put, put_below, puts_once}

module _ (g : Ground) (fits : Fits g) (team : List RecordedWorker) (qs : List PlainQueue)
    (c : Closes g team qs) where
  -- an entry of a queue was put, by its number
  pub in_queue : (m : ℕ) (q : PlainQueue) (l : ℕ) → slice_get qs m ≡ Some q
      → 0 < waits l q + takes l q
      → (queue_of g l ≡ m) × (0 < total (puts_by l) team) × (total (refusals_by l) team ≡ 0)
  in_queue m q l at h =
      let e = (c.queues m q at).put l in
      let r = total_some (placed_by m l) team (omega arith) in
      let p = total_in (placed_of m l) r.1.own.puts r.3 in
      let is = placed_is m l p.0 p.2 in
      let right = (c.stands r.0 r.1 r.2).puts p.0 p.1 in
      let a = placed_put g fits team c.stands c.claims m l in
      let b = puts_once g fits team c.stands c.claims l in
      (ap (queue_of g) is.1 ∙ sym right.queue ∙ is.0, omega arith, omega arith)

  -- no leaf stands in two queues, or twice in one
  pub queue_once : (l : ℕ) → total (λ q. waits l q + takes l q) qs ≤ 1
  queue_once l = at_most_one (λ q. waits l q + takes l q) qs
      (λ m q at. let e = (c.queues m q at).put l in
      let a = placed_put g fits team c.stands c.claims m l in
      let b = puts_once g fits team c.stands c.claims l in omega arith)
      (λ m n q p a b h k. sym (in_queue m q l a h).0 ∙ (in_queue n p l b k).0)

  -- a leaf that was taken
  pub taken_in : (i : ℕ) (x : RecordedWorker) (l : ℕ) → slice_get team i ≡ Some x → WasTaken x.own l
      → (m : ℕ) × (q : PlainQueue) × (slice_get qs m ≡ Some q) × (0 < popped_by m l x)
      × (0 < takes l q)
  taken_in i x l at h =
      let r = get_some qs h.0.queue (let a = ((c.stands i x at).pops h.0 h.2).1 in
      let b = c.queue_count in omega arith) in
      let a = in_total (popped_of h.0.queue l) h.0 x.own.pops h.2 in
      let b : 0 < popped_of h.0.queue l h.0 = subst
      (λ (n : ℕ). 0 < popped_of h.0.queue n h.0) h.4 (popped_some h.0 h.1 h.3) in
      let d : 0 < popped_by h.0.queue l x = omega arith in
      let e = total_at (popped_by h.0.queue l) team i x at in
      let f = (c.queues h.0.queue r.0 r.1).popped l in
      (h.0.queue, r.0, r.1, d, omega arith)

  -- a leaf whose put was refused is counted
  pub refused_some : (x : RecordedWorker) (l : ℕ) → WasRefused x.own l → 0 < refusals_by l x
  refused_some x l h =
      let a = in_total (refused_of l) h.0 x.own.puts h.1 in
      let b : refused_of l h.0
      ≡ one_if_same l h.0.entry.leaf =
      cond-true (is_refused h.0.reply) (one_if_same l h.0.entry.leaf) 0 h.3 in
      let d : one_if_same l h.0.entry.leaf ≡ one_if_same l l = ap (one_if_same l) h.2 in
      let e = same_counts l in
      omega arith

  -- what was refused was put
  pub refused_put : (x : RecordedWorker) (l : ℕ) → refusals_by l x ≤ puts_by l x
  refused_put x l =
      total_most (refused_of l) (put_of l) x.own.puts (λ p. let a = both_of 0 l p in omega arith)

  -- a leaf that stands in a queue or was refused is not the start
  pub put_other : (l : ℕ) → 0 < total (puts_by l) team → g.start ≢ Some l
  put_other l h = let r = total_some (puts_by l) team h in
      (put_below g fits team c.stands c.claims r.0 r.1 l r.2 r.3).2

  -- a leaf that was taken was put, and no put of it was refused
  pub taken_put : (i : ℕ) (x : RecordedWorker) (l : ℕ) → slice_get team i ≡ Some x → WasTaken x.own l
      → (0 < total (puts_by l) team) × (total (refusals_by l) team ≡ 0)
  taken_put i x l at h = let r = taken_in i x l at h in
      let s = in_queue r.0 r.1 l r.2 (omega arith) in (s.1, s.2)

  -- a leaf whose put was refused was put
  pub refused_is : (i : ℕ) (x : RecordedWorker) (l : ℕ) → slice_get team i ≡ Some x → WasRefused x.own l
      → (0 < total (refusals_by l) team) × (0 < total (puts_by l) team)
  refused_is i x l at h =
      let a = refused_some x l h in
      let b = total_at (refusals_by l) team i x at in
      let d = refused_put x l in
      let e = total_at (puts_by l) team i x at in
      (omega arith, omega arith)

  -- the same queue takes a leaf once, for one member
  pub same_taker : (l i j : ℕ) (x y : RecordedWorker) → slice_get team i ≡ Some x
      → slice_get team j ≡ Some y → WasTaken x.own l → WasTaken y.own l → i ≡ j
  same_taker l i j x y a b h k =
      let r = taken_in i x l a h in
      let s = taken_in j y l b k in
      let m = in_queue r.0 r.1 l r.2 (omega arith) in
      let n = in_queue s.0 s.1 l s.2 (omega arith) in
      let same : r.0 ≡ s.0 = sym m.0 ∙ n.0 in
      ⊎_elim
      (λ (e : i ≡ j). e)
      (λ (ne : i ≡ j → ⊥).
      let u = total_two (popped_by s.0 l) team i j x y a b ne
      (subst (λ (z : ℕ). 0 < popped_by z l x) same r.3) s.3 in
      let v = (c.queues s.0 s.1 s.2).popped l in
      let w = (c.queues s.0 s.1 s.2).put l in
      let p = placed_put g fits team c.stands c.claims s.0 l in
      let o = puts_once g fits team c.stands c.claims l in
      absurd (omega arith))
      (cases_eq i j)
