-- Reads in Late keep a worker standing for its record.
use Rattle.std.proofs.Common.{Bool, List, Some, ap, arith, false, inl, inr, leb, length, ltb, refl, subst, sym, true, ℕ, ⊎_elim, ◌&&◌, ◌<◌, ◌∙◌, ◌∷◌, ◌≡◌, ◌≢◌, ◌≤◌, ◌⊎◌}
use Rattle.std.proofs.lemmas.Bool.{and_cases, and_parts, cases_lt, cond_both, eqb-false, eqb-true, leb-false, leb-true}
use Rattle.list_totals.specs.Totals.{one_if_same, times}
use Rattle.series_core.specs.declared.pair.Pair.{Pair}
use Rattle.search_machine.specs.declared.phase.Onward.{Onward}
use Rattle.search_machine.specs.declared.phase.Onward.TheVariants.{Look as ToLook}
use Rattle.search_machine.specs.declared.phase.Phase.TheVariants.{Late, Look, Offer}
use Rattle.search_machine.specs.Ground.{Fits, Ground, scan, worst}
use Rattle.search_machine.specs.Workers.{Worker, after_late, after_scan, improves, in_phase, is_new, onward, scanned_by}
use Rattle.search_machine.specs.OwnRecord.{Below, Far, Floored, OwnRecord, WasPut, WasRefused, with_read}
use Rattle.search_machine.specs.Sound.{held, in_hand}
use Rattle.search_machine.specs.Stands.{OwnOnward, OwnPhase, Stands, in_late}
use Rattle.search_machine.proofs.Counts.{counts_or_not, same_counts, times_cons}
use Rattle.search_machine.proofs.HandsAndScans.{scan_hand}
use Rattle.search_machine.proofs.Owed.{in_give_hand, owned, owned_by_read}
use Rattle.search_machine.proofs.OwnClaims.{own_onward}
use Rattle.search_machine.proofs.Places.{total_at}
use Rattle.search_machine.proofs.RecordsGrow.{grows_read, phase_of, refused_still, under_still}
use Rattle.search_machine.proofs.Scans.{list_scanned}

-- what holds by the phase after a scan
pub own_after_scan : (g : Ground) (t : OwnRecord) (i : ℕ) (ls : List ℕ) (ps : List Pair) (v : ℕ)
    (next : Onward) → OwnOnward g t i ls next → OwnPhase g t i ls ps (after_scan g ps v next)
own_after_scan g t i ls ps v next h =
    cond_both (improves g ps v) (Offer next) (onward next) (OwnPhase g t i ls ps)
    (λ e. (leb-true g.k (length ps) (and_parts (leb g.k (length ps)) (ltb (worst g ps) v) e).0, h))
    (λ _. own_onward g t i ls ps next h)

-- a leaf that tests so is new, and the other test holds
pub new_and : (w : Worker) (l : ℕ) (b : Bool) → (is_new l w && b) ≡ true
    → (times l w.scanned ≡ 0) × (b ≡ true)
new_and w l b h = let a = and_parts (is_new l w) b h in (eqb-true (times l w.scanned) 0 a.0, a.1)

-- a leaf that does not was scanned
pub not_new : (w : Worker) (l : ℕ) → is_new l w ≡ false → 0 < times l w.scanned
not_new w l h = ⊎_elim
    (λ (a : 0 < times l w.scanned). a)
    (λ (a : times l w.scanned ≤ 0). absurd (eqb-false (times l w.scanned) 0 h (omega arith)))
    (cases_lt 0 (times l w.scanned))

-- a new leaf keeps every leaf scanned once at most
pub single_more : (w : Worker) (l : ℕ) → ((m : ℕ) → times m w.scanned ≤ 1) → times l w.scanned ≡ 0
    → (m : ℕ) → times m (l ∷ w.scanned) ≤ 1
single_more w l single new m = ⊎_elim
    (λ (c : (one_if_same m l ≡ 1) × (m ≡ l)). let a : times m w.scanned ≡ times l w.scanned = ap
    (λ (n : ℕ). times n w.scanned) c.1 in let b = c.0 in omega arith)
    (λ (c : one_if_same m l ≡ 0). let a = single m in omega arith)
    (counts_or_not m l)

-- what is below a claimed root child is a leaf
pub below_real : (g : Ground) → Fits g → (r : OwnRecord) (l : ℕ) → Below g r l → l < g.leaves
below_real g fits r l b = let a = total_at (times l) g.roots b.0 b.1 b.3 in
    let c = b.4 in fits.below_real l (omega arith)

module _ (g : Ground) (fits : Fits g) (i : ℕ) (w : Worker) (r : OwnRecord) (l v : ℕ)
    (s : Stands g i w r) (e : w.phase ≡ Late l) where
  -- the put of the leaf in the hand was refused
  was : WasRefused (with_read v r) l
  was = refused_still g r (with_read v r) (grows_read v r) l (phase_of g i w r (Late l) s e).1

  -- it was put
  was_put : (m : ℕ) → m ≡ l → WasPut (with_read v r) m
  was_put m same = (was.0, was.1, was.2 ∙ sym same)

  -- what is held is held still or was put
  keeps_late : (x : Worker) → ((m : ℕ) → times m w.rest ≤ held m x) → (m : ℕ) → 0 < held m w
      → (0 < held m x) ⊎ WasPut (with_read v r) m ⊎ Far g (with_read v r) m
  keeps_late x rest m h = ⊎_elim
      (λ (c : (one_if_same m l ≡ 1) × (m ≡ l)). inr (inl (was_put m c.1)))
      (λ (c : one_if_same m l ≡ 0). let a = ap (in_hand m) e in let b = rest m in inl (omega arith))
      (counts_or_not m l)

  -- it is the one leaf in the hand
  at_hand : (m : ℕ) → 0 < in_late m w.phase → m ≡ l
  at_hand m h = ⊎_elim
      (λ (c : (one_if_same m l ≡ 1) × (m ≡ l)). c.1)
      (λ (c : one_if_same m l ≡ 0). let a = ap (in_late m) e in absurd (omega arith))
      (counts_or_not m l)

  -- the leaf is scanned
  late_scans : times l w.scanned ≡ 0 → Stands g i (scanned_by g w l v ToLook) (with_read v r)
  late_scans new = owned g i w (scanned_by g w l v ToLook) r (with_read v r) s (record {
    more = grows_read v r;
    news = λ m h. inl h;
    keeps = keeps_late (scanned_by g w l v ToLook) (λ m. omega arith);
    puts = λ p h. inl h;
    pops = λ p h. inl h;
    claims = λ c h. inl h;
    scanned = λ m h. ⊎_elim
        (λ (same : m ≡ l). inr (inr (subst (WasRefused (with_read v r)) (sym same) was)))
        (λ (old : 0 < times m w.scanned). inl old)
        (times_cons m l w.scanned h);
    kept_scans = λ m h. omega arith;
    taken = λ m low h. inl h;
    single = single_more w l s.single new;
    refused = λ m h. inl h;
    hand = λ m h. inl
        (subst (λ (n : ℕ). 0 < times n (l ∷ w.scanned)) (sym (at_hand m h))
        (let a = same_counts l in omega arith));
    list = list_scanned g fits (Floored g (with_read v r)) l v w.scanned w.list
        (below_real g fits r l there.1) new
        (λ f. f v (inl refl))
        (under_still g r (with_read v r) (grows_read v r) w.scanned w.list s.list);
    once = λ d m. let a = s.once d m in
        let b = scan_hand g (scan g v (g.members l) w.list) v m ToLook in
        let c = in_give_hand m (after_scan g (scan g v (g.members l) w.list) v ToLook) in
        omega arith;
    held = λ m h. let b = scan_hand g (scan g v (g.members l) w.list) v m ToLook in
        inl (omega arith);
    phase = own_after_scan g (with_read v r) i w.rest (scan g v (g.members l) w.list) v ToLook tt;
  })
    where
      there : (g.start ≢ Some l) × Below g r l
      there = s.held l (let a = ap (in_hand l) e in let b = same_counts l in omega arith)

  -- the leaf is cut or passed over
  late_passes : (0 < times l w.scanned) ⊎ Far g (with_read v r) l
      → Stands g i (in_phase Look w) (with_read v r)
  late_passes why = owned_by_read g i w w.rest Look r v s (record {
    keeps = keeps_late (in_phase Look w) (λ m. omega arith);
    hand = λ m h. ⊎_elim
        (λ (a : 0 < times l w.scanned). inl
        (subst (λ (n : ℕ). 0 < times n w.scanned) (sym (at_hand m h)) a))
        (λ (a : Far g (with_read v r) l). inr
        (inr (subst (Far g (with_read v r)) (sym (at_hand m h)) a)))
        why;
    once = λ d m. let a = s.once d m in omega arith;
    held = λ m h. inl (omega arith);
    phase = tt;
  })

  -- a read in Late
  pub own_late : Stands g i (after_late g w l v) (with_read v r)
  own_late = cond_both (is_new l w && leb (g.bound l) v) (scanned_by g w l v ToLook)
      (in_phase Look w) (λ x. Stands g i x (with_read v r))
      (λ b. late_scans (new_and w l (leb (g.bound l) v) b).0)
      (λ b. late_passes (⊎_elim
      (λ (f : is_new l w ≡ false). inl (not_new w l f))
      (λ (f : leb (g.bound l) v ≡ false). inr (v, inl refl, leb-false (g.bound l) v f))
      (and_cases (is_new l w) (leb (g.bound l) v) b)))
