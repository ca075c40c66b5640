-- Pops keep a worker standing for its record, whatever the reply.
use Rattle.std.proofs.Common.{ap, arith, false, inl, inr, ltb, refl, subst, suc, sym, ℕ, ⊎_elim, ◌%◌, ◌&&◌, ◌+◌, ◌<◌, ◌∙◌, ◌∷◌, ◌≡◌, ◌⊎◌}
use Rattle.std.proofs.Math.Nat.{mod-lt}
use Rattle.std.proofs.lemmas.Bool.{and_cases, cases_eq, cond_both, ltb-false, ltb-true}
use Rattle.list_totals.specs.Totals.{times}
use Rattle.series_core.specs.declared.queue_words.Entry.{Entry}
use Rattle.series_core.specs.declared.queue_words.PopReply.{PopReply}
use Rattle.series_core.specs.declared.queue_words.PopReply.TheVariants.{Closed, Leaf}
use Rattle.search_machine.specs.declared.phase.Onward.TheVariants.{Aim as ToAim}
use Rattle.search_machine.specs.declared.phase.Phase.{Phase}
use Rattle.search_machine.specs.declared.phase.Phase.TheVariants.{Aim, Done, Pop}
use Rattle.search_machine.specs.Ground.{Fits, Ground, scan}
use Rattle.search_machine.specs.Workers.{Worker, after_pop, after_scan, in_phase, is_new, scanned_by}
use Rattle.list_totals.specs.Standing.{In}
use Rattle.search_machine.specs.OwnRecord.{Floored, OwnRecord, PopMade, WasTaken, with_pop}
use Rattle.search_machine.specs.Sound.{in_hand}
use Rattle.search_machine.specs.Stands.{OwnDrains, OwnPhase, Stands, in_late}
use Rattle.search_machine.proofs.Counts.{same_counts, times_cons}
use Rattle.search_machine.proofs.HandsAndScans.{scan_hand}
use Rattle.search_machine.proofs.Owed.{in_give_hand, owned, quiet}
use Rattle.search_machine.proofs.OwnLate.{new_and, not_new, own_after_scan, single_more}
use Rattle.search_machine.proofs.RecordsGrow.{Grows, grows_pop, own_drains_still, phase_of, under_still}
use Rattle.search_machine.proofs.Scans.{list_scanned}

-- the two replies differ
closed_leaf : (k : ℕ) (e : Entry) → Closed k ≡ Leaf e → ⊥
closed_leaf k e h = cc

-- a reply tells its entry
leaf_same : (d e : Entry) → Leaf d ≡ Leaf e → d ≡ e
leaf_same d e h = cc

module _ (g : Ground) (fits : Fits g) (i : ℕ) (w : Worker) (r : OwnRecord) (j v : ℕ)
    (s : Stands g i w r) (e : w.phase ≡ Pop j v) where
  -- the pop that the turn makes
  abbrev asked : PopReply → PopMade
  asked reply = record { queue = (i + j) % g.queues; limit = v; reply = reply }

  -- the longer record
  grown : (reply : PopReply) → Grows r (with_pop (asked reply) r)
  grown reply = grows_pop (asked reply) r

  -- the worker drains still
  drains : (reply : PopReply) → OwnDrains g (with_pop (asked reply) r) i j w.rest
  drains reply =
      own_drains_still g r (with_pop (asked reply) r) (grown reply) i j w.rest
      (phase_of g i w r (Pop j v) s e).0

  -- the limit of each pop is the reply to a read, and each names a queue
  limits : (reply : PopReply) (p : PopMade) → In p (with_pop (asked reply) r).pops
      → In p r.pops ⊎ (In p.limit r.reads × (p.queue < g.queues))
  limits reply p h = ⊎_elim
      (λ (same : p ≡ asked reply). inr
      (subst (λ (q : PopMade). In q.limit r.reads × (q.queue < g.queues)) (sym same)
      ((phase_of g i w r (Pop j v) s e).1, mod-lt (i + j) fits.some_queue)))
      (λ (old : In p r.pops). inl old)
      h

  -- going on without a scan
  goes : (reply : PopReply) (ph : Phase) → ((l : ℕ) → in_hand l ph ≡ 0)
      → ((l : ℕ) → l < g.leaves → WasTaken (with_pop (asked reply) r) l
      → WasTaken r l ⊎ (0 < times l w.scanned))
      → OwnPhase g (with_pop (asked reply) r) i w.rest w.list ph
      → Stands g i (in_phase ph w) (with_pop (asked reply) r)
  goes reply ph none taken right = quiet g i w ph r (with_pop (asked reply) r) s (record {
    more = grown reply;
    no_hand = λ l. ap (in_hand l) e;
    no_hand_then = none;
    same_puts = refl;
    news = λ l h. h;
    pops = limits reply;
    claims = λ c h. inl h;
    taken = taken;
    different = λ d. d;
    phase = right;
  })

  -- the leaf is scanned
  pop_scans : (d : Entry) → times d.leaf w.scanned ≡ 0 → d.leaf < g.leaves
      → Stands g i (scanned_by g w d.leaf v (ToAim j)) (with_pop (asked (Leaf d)) r)
  pop_scans d new real =
      owned g i w (scanned_by g w d.leaf v (ToAim j)) r (with_pop (asked (Leaf d)) r) s (record {
        more = grown (Leaf d);
        news = λ m h. inl h;
        keeps = λ m h. let a = ap (in_hand m) e in inl (omega arith);
        puts = λ p h. inl h;
        pops = limits (Leaf d);
        claims = λ c h. inl h;
        scanned = λ m h. ⊎_elim
            (λ (same : m ≡ d.leaf). inr (inl (asked (Leaf d), d, inl refl, refl, sym same)))
            (λ (old : 0 < times m w.scanned). inl old)
            (times_cons m d.leaf w.scanned h);
        kept_scans = λ m h. omega arith;
        taken = λ m low h. ⊎_elim
            (λ (same : h.0 ≡ asked (Leaf d)). inr
            (subst (λ (n : ℕ). 0 < times n (d.leaf ∷ w.scanned))
            (ap (λ (x : Entry). x.leaf)
            (leaf_same d h.1 (sym (ap (λ (q : PopMade). q.reply) same) ∙ h.3)) ∙ h.4)
            (let a = same_counts d.leaf in omega arith)))
            (λ (old : In h.0 r.pops). inl (h.0, h.1, old, h.3, h.4))
            h.2;
        single = single_more w d.leaf s.single new;
        refused = λ m h. inl h;
        hand = λ m h. let a = ap (in_late m) e in absurd (omega arith);
        list = list_scanned g fits (Floored g (with_pop (asked (Leaf d)) r)) d.leaf v w.scanned
            w.list
            real new (λ f. f v (phase_of g i w r (Pop j v) s e).1)
            (under_still g r (with_pop (asked (Leaf d)) r) (grown (Leaf d)) w.scanned w.list
            s.list);
        once = λ f m. let a = s.once f m in
            let b = scan_hand g (scan g v (g.members d.leaf) w.list) v m (ToAim j) in
            let c = in_give_hand m (after_scan g (scan g v (g.members d.leaf) w.list) v (ToAim j))
            in
            omega arith;
        held = λ m h. let b = scan_hand g (scan g v (g.members d.leaf) w.list) v m (ToAim j) in
            inl (omega arith);
        phase = own_after_scan g (with_pop (asked (Leaf d)) r) i w.rest
            (scan g v (g.members d.leaf) w.list) v (ToAim j) (drains (Leaf d));
      })

  -- the queue gave a Closed reply
  closes : (k : ℕ) → OwnDrains g (with_pop (asked (Closed k)) r) i (suc j) w.rest
  closes k = record {
    ended = (drains (Closed k)).ended;
    rest = (drains (Closed k)).rest;
    closed = λ x low. ⊎_elim
        (λ (same : x ≡ j).
        (asked (Closed k), k, inl refl, ap (λ (n : ℕ). (i + n) % g.queues) (sym same), refl))
        (λ (ne : x ≡ j → ⊥). (drains (Closed k)).closed x (omega arith))
        (cases_eq x j);
  }

  -- a Closed reply takes no leaf
  none_taken : (k : ℕ) (l : ℕ) → l < g.leaves → WasTaken (with_pop (asked (Closed k)) r) l
      → WasTaken r l ⊎ (0 < times l w.scanned)
  none_taken k l low h = ⊎_elim
      (λ (same : h.0 ≡ asked (Closed k)). absurd
      (closed_leaf k h.1 (sym (ap (λ (q : PopMade). q.reply) same) ∙ h.3)))
      (λ (old : In h.0 r.pops). inl (h.0, h.1, old, h.3, h.4))
      h.2

  -- a leaf that was passed over was scanned before, or is none
  over : (d : Entry) → (is_new d.leaf w && ltb d.leaf g.leaves) ≡ false → (l : ℕ) → l < g.leaves
      → WasTaken (with_pop (asked (Leaf d)) r) l → WasTaken r l ⊎ (0 < times l w.scanned)
  over d b l low h = ⊎_elim
      (λ (same : h.0 ≡ asked (Leaf d)).
      let leaf : d.leaf ≡ l = ap
      (λ (x : Entry). x.leaf) (leaf_same d h.1 (sym (ap (λ (q : PopMade). q.reply) same) ∙ h.3))
      ∙ h.4 in
      inr (⊎_elim
      (λ (f : is_new d.leaf w ≡ false). subst
      (λ (n : ℕ). 0 < times n w.scanned) leaf (not_new w d.leaf f))
      (λ (f : ltb d.leaf g.leaves ≡ false). let a = ltb-false d.leaf g.leaves f in
      absurd (omega arith))
      (and_cases (is_new d.leaf w) (ltb d.leaf g.leaves) b)))
      (λ (old : In h.0 r.pops). inl (h.0, h.1, old, h.3, h.4))
      h.2

  -- a pop, whatever the reply
  pub own_pop : (reply : PopReply) → Stands g i (after_pop g w j v reply) (with_pop (asked reply) r)
  own_pop (Leaf d) =
      cond_both (is_new d.leaf w && ltb d.leaf g.leaves) (scanned_by g w d.leaf v (ToAim j))
      (in_phase (Aim j) w) (λ x. Stands g i x (with_pop (asked (Leaf d)) r))
      (λ b. let f = new_and w d.leaf (ltb d.leaf g.leaves) b in
      pop_scans d f.0 (ltb-true d.leaf g.leaves f.1))
      (λ b. goes (Leaf d) (Aim j) (λ l. refl) (over d b) (drains (Leaf d)))
  own_pop (Closed k) =
      cond_both (ltb (suc j) g.queues) (in_phase (Aim (suc j)) w) (in_phase Done w)
      (λ x. Stands g i x (with_pop (asked (Closed k)) r))
      (λ _. goes (Closed k) (Aim (suc j)) (λ l. refl) (none_taken k) (closes k))
      (λ b. goes (Closed k) Done
      (λ l. refl) (none_taken k) (let a = ltb-false (suc j) g.queues b in
      record {
        ended = (closes k).ended;
        rest = (closes k).rest;
        closed =
            λ x low. (closes k).closed x (omega arith);
      }))
