-- A turn keeps a straight state straight, where nobody fills any more once some worker drains.
use Rattle.std.proofs.Common.{List, None, Option, Some, [], ap, append_assoc, arith, false, inl, inr, ltb, min, refl, set, subst, suc, sym, true, ℕ, ⊎_elim, ◌&&◌, ◌++◌, ◌+◌, ◌<◌, ◌∙◌, ◌∷◌, ◌≡◌, ◌≤◌, ◌⊎◌}
use Rattle.std.proofs.lemmas.Bool.{cases_lt, cond_both, false≢true, ltb-false}
use Rattle.std.proofs.lemmas.Option.{none-some}
use Rattle.std.specs.Prelude.{slice_get}
use Rattle.list_totals.proofs.Totals.{total_append}
use Rattle.list_totals.specs.Totals.{one_if_same, times, total}
use Rattle.series_core.specs.declared.pair.Pair.{Pair}
use Rattle.series_core.specs.declared.queue_words.Entry.{Entry}
use Rattle.series_core.specs.declared.queue_words.PopReply.{PopReply}
use Rattle.series_core.specs.declared.queue_words.PopReply.TheVariants.{Closed, Leaf}
use Rattle.series_core.specs.declared.queue_words.PutReply.{PutReply}
use Rattle.series_core.specs.declared.queue_words.PutReply.TheVariants.{Filled, Placed}
use Rattle.leaf_queues.specs.PlainQueue.{PlainQueue, place, placed_in, pop_open, put_open, shut_with, taken_from}
use Rattle.search_machine.specs.declared.phase.Onward.TheVariants.{Aim as ToAim, Look as ToLook}
use Rattle.search_machine.specs.declared.phase.Phase.{Phase}
use Rattle.search_machine.specs.declared.phase.Phase.TheVariants.{Aim, Claim, Done, Give, Late, Look, Offer, Pop}
use Rattle.search_machine.specs.Ground.{Ground, scan, worst, entry_of, queue_of}
use Rattle.search_machine.specs.Machine.{State}
use Rattle.search_machine.proofs.Rows.{claim_turn, give_turn, pop_done, pop_turn, put_done, row, with_queue}
use Rattle.search_machine.specs.Workers.{Worker, after_claim, after_pop, improves, in_phase, is_new, round_queue, scanned_by, skip, stopped, fills}
use Rattle.search_machine.specs.Sound.{Sound, scans, takes}
use Rattle.search_machine.specs.Basics.{Ordered, entered}
use Rattle.search_machine.specs.Straight.{Straight, on_time}
use Rattle.search_machine.proofs.Counts.{same_counts, times_cons}
use Rattle.search_machine.proofs.Entries.{ordered_place}
use Rattle.search_machine.proofs.Filling.{room}
use Rattle.search_machine.proofs.Places.{get_set, total_at, total_set}
use Rattle.search_machine.proofs.Turns.{changed}

-- a turn of worker i that leaves the queues as they are
record Quietly (g : Ground) (s : State) (i : ℕ) (w x : Worker) : Type 0 where
  on_time : on_time x.phase ≡ true
  fills : fills x.phase ≡ true → fills w.phase ≡ true
  same_scans : (l : ℕ) → scans l x ≡ scans l w

-- such a turn keeps the state straight
quietly : (g : Ground) (s : State) (i : ℕ) (w x : Worker) (word c : ℕ) → Straight g s
    → slice_get s.workers i ≡ Some w → Quietly g s i w x
    → Straight g (changed s i x word c s.queues)
quietly g s i w x word c t at q = record {
  on_time = λ j y e. ⊎_elim
      (λ (h : (j ≡ i) × (x ≡ y)). subst (λ (z : Worker). on_time z.phase ≡ true) h.1 q.on_time)
      (λ (h : slice_get s.workers j ≡ Some y). t.on_time j y h)
      (get_set s.workers i j y x e);
  before_pops = λ j m y r e f h. ⊎_elim
      (λ (k : (j ≡ i) × (x ≡ y)). t.before_pops i m w r at f
      (q.fills (subst (λ (z : Worker). fills z.phase ≡ true) (sym k.1) h)))
      (λ (k : slice_get s.workers j ≡ Some y). t.before_pops j m y r k f h)
      (get_set s.workers i j y x e);
  ordered = t.ordered;
  taken = λ l h. let a = total_set (scans l) s.workers i w x at in
      let b = q.same_scans l in t.taken l (omega arith);
}

-- a turn of worker i that changes queue m
record Loudly (g : Ground) (s : State) (i m : ℕ) (w x : Worker) (q r : PlainQueue) : Type 0 where
  on_time : on_time x.phase ≡ true
  open_still : (j n : ℕ) (y : Worker) (p : PlainQueue) → slice_get (set s.workers i x) j ≡ Some y
      → slice_get (set s.queues m r) n ≡ Some p → fills y.phase ≡ true
      → (p.kept ≡ None) × (p.taken ≡ [])
  ordered : Ordered (r.taken ++ r.waiting)
  grow : (l : ℕ) → takes l q ≤ takes l r
  new : (l : ℕ) → 0 < scans l x → (0 < scans l w) ⊎ (0 < takes l r)

-- such a turn keeps the state straight
loudly : (g : Ground) (s : State) (i m : ℕ) (w x : Worker) (q r : PlainQueue) → Straight g s
    → slice_get s.workers i ≡ Some w → slice_get s.queues m ≡ Some q → Loudly g s i m w x q r
    → Straight g (with_queue m r i x s)
loudly g s i m w x q r t at at_queue o = record {
  on_time = λ j y e. ⊎_elim
      (λ (h : (j ≡ i) × (x ≡ y)). subst (λ (z : Worker). on_time z.phase ≡ true) h.1 o.on_time)
      (λ (h : slice_get s.workers j ≡ Some y). t.on_time j y h)
      (get_set s.workers i j y x e);
  before_pops = λ j n y p e f h. o.open_still j n y p e f h;
  ordered = λ n p e. ⊎_elim
      (λ (h : (n ≡ m) × (r ≡ p)). subst
      (λ (z : PlainQueue). Ordered (z.taken ++ z.waiting)) h.1 o.ordered)
      (λ (h : slice_get s.queues n ≡ Some p). t.ordered n p h)
      (get_set s.queues m n p r e);
  taken = λ l h.
      let a = total_set (scans l) s.workers i w x at in
      let b = total_set (takes l) s.queues m q r at_queue in
      let c = o.grow l in
      ⊎_elim
      (λ (k : 0 < total (scans l) s.workers). ⊎_elim (λ (u : g.start ≡ Some l). inl u)
      (λ (u : 0 < total (takes l) s.queues). inr (omega arith)) (t.taken l k))
      (λ (k : total (scans l) s.workers ≤ 0).
      let d = total_at (scans l) s.workers i w at in
      ⊎_elim (λ (u : 0 < scans l w). absurd (omega arith))
      (λ (u : 0 < takes l r). let e = total_at (takes l) s.queues m q at_queue in
      inr (omega arith)) (o.new l (omega arith)))
      (cases_lt 0 (total (scans l) s.workers));
}

-- a worker that does not fill does not fill
no_fill : (phase : Phase) → fills phase ≡ false → fills phase ≡ true → ⊥
no_fill phase e h = false≢true (sym e ∙ h)

-- stopping at the first leaf that is left
stopped_straight : (g : Ground) (s : State) (i : ℕ) (w : Worker) (ls : List ℕ) → w.phase ≡ Look
    → Quietly g s i w (stopped w ls)
stopped_straight g s i w [] e =
    record { on_time = refl; fills = λ _. ap fills e; same_scans = λ l. refl }
stopped_straight g s i w (m ∷ ms) e =
    record { on_time = refl; fills = λ _. ap fills e; same_scans = λ l. refl }

-- a claim
claim_straight : (g : Ground) (s : State) (i : ℕ) (w : Worker) → Straight g s
    → slice_get s.workers i ≡ Some w → w.phase ≡ Claim → (o : Option (List ℕ))
    → Straight g (claim_turn g i s w o)
claim_straight g s i w t at e None =
    quietly g s i w (after_claim g w None) s.word s.claimed t at
    (record { on_time = refl; fills = λ h. absurd (cc); same_scans = λ l. refl })
claim_straight g s i w t at e (Some r) =
    quietly g s i w (after_claim g w (Some r)) s.word (suc s.claimed) t at
    (record { on_time = refl; fills = λ _. ap fills e; same_scans = λ l. refl })

module _ (g : Ground) (s : State) (i : ℕ) (w : Worker) (l : ℕ) (q : PlainQueue) (sound : Sound g s)
    (t : Straight g s) (at : slice_get s.workers i ≡ Some w) (e : w.phase ≡ Give l)
    (at_queue : slice_get s.queues (queue_of g l) ≡ Some q) where
  -- the queue is not shut, and nothing was taken from it
  unpopped : (q.kept ≡ None) × (q.taken ≡ [])
  unpopped = t.before_pops i (queue_of g l) w q at at_queue (ap fills e)

  -- the put is placed
  give_placed : (r : PlainQueue) → r.kept ≡ None → r.taken ≡ q.taken
      → r.waiting ≡ place (entry_of g l) q.waiting
      → Straight g (with_queue (queue_of g l) r i (in_phase Look w) s)
  give_placed r not_shut same_taken same_waiting =
      loudly g s i (queue_of g l) w (in_phase Look w) q r t at at_queue (record {
        on_time = refl;
        open_still = λ j n y p f h k. ⊎_elim
            (λ (u : (n ≡ queue_of g l) × (r ≡ p)). (
              ap (λ (z : PlainQueue). z.kept) (sym u.1)
                  ∙ not_shut,
              ap (λ (z : PlainQueue). z.taken) (sym u.1) ∙ same_taken ∙ unpopped.1,
            ))
            (λ (u : slice_get s.queues n ≡ Some p). t.before_pops i n w p at u (ap fills e))
            (get_set s.queues (queue_of g l) n p r h);
        ordered = subst
            (λ (xs : List Entry). Ordered (xs ++ r.waiting)) (sym (same_taken ∙ unpopped.1))
            (subst Ordered (sym same_waiting)
            (ordered_place (entry_of g l) q.waiting
            (subst (λ (xs : List Entry). Ordered (xs ++ q.waiting)) unpopped.1
            (t.ordered (queue_of g l) q at_queue))));
        grow = λ m. let a = ap (entered m) same_taken in omega arith;
        new = λ m h. inl h;
      })

  -- a put, by the kept limit
  give_open : (k : Option ℕ) → q.kept ≡ k
      → Straight g (put_done g i s w l (put_open (entry_of g l) q k))
  give_open (Some v) f = absurd (none-some v (sym unpopped.0 ∙ f))
  give_open None f = cond_both (ltb q.placed q.capacity)
      (placed_in (entry_of g l) q, Placed)
      (q, Filled q.capacity)
      (λ (r : PlainQueue × PutReply). Straight g (put_done g i s w l r))
      (λ _. give_placed (placed_in (entry_of g l) q) refl refl refl)
      (λ b. let a = ltb-false q.placed q.capacity b in
      let c = room g s i w l q sound at e at_queue in absurd (omega arith))

-- a put
give_straight : (g : Ground) (s : State) (i : ℕ) (w : Worker) (l : ℕ) → Sound g s → Straight g s
    → slice_get s.workers i ≡ Some w → w.phase ≡ Give l → (o : Option PlainQueue)
    → slice_get s.queues (queue_of g l) ≡ o → Straight g (give_turn g i s w l o)
give_straight g s i w l sound t at e None f = t
give_straight g s i w l sound t at e (Some q) f = give_open g s i w l q sound t at e f q.kept refl

-- no worker fills
abbrev pub NoneFills : State → Type 0
NoneFills s = (j : ℕ) (y : Worker) → slice_get s.workers j ≡ Some y → fills y.phase ≡ false

module _ (g : Ground) (s : State) (i : ℕ) (w : Worker) (j v : ℕ) (q : PlainQueue) (t : Straight g s)
    (drained : NoneFills s) (at : slice_get s.workers i ≡ Some w)
    (at_queue : slice_get s.queues (round_queue g i j) ≡ Some q) where
  -- a pop, whatever it made of the queue
  pops : (x : Worker) (r : PlainQueue) → on_time x.phase ≡ true → fills x.phase ≡ false
      → Ordered (r.taken ++ r.waiting) → ((l : ℕ) → takes l q ≤ takes l r)
      → ((l : ℕ) → 0 < scans l x → (0 < scans l w) ⊎ (0 < takes l r))
      → Straight g (with_queue (round_queue g i j) r i x s)
  pops x r timely fill ordered grow new =
      loudly g s i (round_queue g i j) w x q r t at at_queue (record {
        on_time = timely;
        open_still = λ k n y p f h u. ⊎_elim
            (λ (c : (k ≡ i) × (x ≡ y)). absurd
            (no_fill y.phase (subst (λ (z : Worker). fills z.phase ≡ false) c.1 fill) u))
            (λ (c : slice_get s.workers k ≡ Some y). absurd (no_fill y.phase (drained k y c) u))
            (get_set s.workers i k y x f);
        ordered = ordered;
        grow = grow;
        new = new;
      })

  -- a pop that took nothing
  pop_nothing : (r : PlainQueue) (k : ℕ) → r.taken ≡ q.taken → r.waiting ≡ q.waiting
      → Straight g (with_queue (round_queue g i j) r i (after_pop g w j v (Closed k)) s)
  pop_nothing r k same_taken same_waiting =
      cond_both (ltb (suc j) g.queues) (in_phase (Aim (suc j)) w) (in_phase Done w)
      (λ x. Straight g (with_queue (round_queue g i j) r i x s))
      (λ _. pops (in_phase (Aim (suc j)) w) r refl refl ordered grow (λ l h. inl h))
      (λ _. pops (in_phase Done w) r refl refl ordered grow (λ l h. inl h))
    where
      ordered : Ordered (r.taken ++ r.waiting)
      ordered = subst
          (λ (xs : List Entry). Ordered (xs ++ r.waiting)) (sym same_taken)
          (subst (λ (xs : List Entry). Ordered (q.taken ++ xs)) (sym same_waiting)
          (t.ordered (round_queue g i j) q at_queue))

      grow : (l : ℕ) → takes l q ≤ takes l r
      grow l = let a = ap (entered l) same_taken in omega arith

  -- a pop that took the first entry
  pop_takes : (d : Entry) (ds : List Entry) → q.waiting ≡ d ∷ ds
      → Straight g
      (with_queue (round_queue g i j) (taken_from d ds q) i (after_pop g w j v (Leaf d)) s)
  pop_takes d ds is =
      cond_both (is_new d.leaf w && ltb d.leaf g.leaves) (scanned_by g w d.leaf v (ToAim j))
      (in_phase (Aim j) w) (λ x. Straight g (with_queue (round_queue g i j) r i x s))
      (λ _. pops (scanned_by g w d.leaf v (ToAim j)) r
      (cond_both (improves g ps v) (Offer (ToAim j)) (Aim j) (λ p. on_time p ≡ true) (λ _. refl)
      (λ _. refl))
      (cond_both (improves g ps v) (Offer (ToAim j)) (Aim j) (λ p. fills p ≡ false) (λ _. refl)
      (λ _. refl))
      ordered grow
      (λ l h. ⊎_elim
      (λ (c : l ≡ d.leaf). let a = more l in
      let b = same_counts d.leaf in
      let f : one_if_same l d.leaf ≡ one_if_same d.leaf d.leaf = ap
      (λ (n : ℕ). one_if_same n d.leaf) c in inr (omega arith))
      (λ (c : 0 < times l w.scanned). inl c)
      (times_cons l d.leaf w.scanned h)))
      (λ _. pops (in_phase (Aim j) w) r refl refl ordered grow (λ l h. inl h))
    where
      r : PlainQueue
      r = taken_from d ds q

      ps : List Pair
      ps = scan g v (g.members d.leaf) w.list

      ordered : Ordered (r.taken ++ r.waiting)
      ordered = subst Ordered (sym (append_assoc q.taken (d ∷ []) ds))
          (subst (λ (xs : List Entry). Ordered (q.taken ++ xs)) is
          (t.ordered (round_queue g i j) q at_queue))

      more : (l : ℕ) → takes l r ≡ takes l q + one_if_same l d.leaf
      more l = let a = total_append (λ (x : Entry). one_if_same l x.leaf) q.taken (d ∷ []) in
          omega arith

      grow : (l : ℕ) → takes l q ≤ takes l r
      grow l = let a = more l in omega arith

  -- a pop, by the kept limit and the waiting entries
  pop_of : (k : Option ℕ) (es : List Entry) → q.kept ≡ k → q.waiting ≡ es
      → Straight g (pop_done g i s w j v (pop_open v q k es))
  pop_of (Some k) es f is = pop_nothing q k refl refl
  pop_of None [] f is = pop_nothing (shut_with v q) v refl refl
  pop_of None (d ∷ ds) f is = cond_both (ltb v d.bound)
      (shut_with v q, Closed v)
      (taken_from d ds q, Leaf d)
      (λ (r : PlainQueue × PopReply). Straight g (pop_done g i s w j v r))
      (λ _. pop_nothing (shut_with v q) v refl refl)
      (λ _. pop_takes d ds is)

-- a pop
pop_straight : (g : Ground) (s : State) (i : ℕ) (w : Worker) (j v : ℕ) → Straight g s → NoneFills s
    → slice_get s.workers i ≡ Some w → (o : Option PlainQueue)
    → slice_get s.queues (round_queue g i j) ≡ o → Straight g (pop_turn g i s w j v o)
pop_straight g s i w j v t drained at None f = t
pop_straight g s i w j v t drained at (Some q) f =
    pop_of g s i w j v q t drained at f q.kept q.waiting refl refl

-- the turn of a worker by its phase
pub phase_straight : (g : Ground) (s : State) (i : ℕ) (w : Worker) → Sound g s → Straight g s
    → slice_get s.workers i ≡ Some w → (fills w.phase ≡ false → NoneFills s) → (phase : Phase)
    → w.phase ≡ phase → Straight g (row g i s w phase)
phase_straight g s i w sound t at drained Claim e =
    claim_straight g s i w t at e (slice_get g.roots s.claimed)
phase_straight g s i w sound t at drained Look e =
    quietly g s i w (stopped w (skip g s.word w.rest)) s.word s.claimed t at
    (stopped_straight g s i w (skip g s.word w.rest) e)
phase_straight g s i w sound t at drained (Give l) e =
    give_straight g s i w l sound t at e (slice_get s.queues (queue_of g l)) refl
phase_straight g s i w sound t at drained (Late l) e =
    absurd (false≢true (ap on_time (sym e) ∙ t.on_time i w at))
phase_straight g s i w sound t at drained (Aim j) e =
    quietly g s i w (in_phase (Pop j s.word) w) s.word s.claimed t at
    (record { on_time = refl; fills = λ h. absurd (false≢true h); same_scans = λ l. refl })
phase_straight g s i w sound t at drained (Pop j v) e =
    pop_straight g s i w j v t (drained (ap fills e)) at (slice_get s.queues (round_queue g i j))
    refl
phase_straight g s i w sound t at drained (Offer ToLook) e =
    absurd (false≢true (ap on_time (sym e) ∙ t.on_time i w at))
phase_straight g s i w sound t at drained (Offer (ToAim j)) e =
    quietly g s i w (in_phase (Aim j) w) (min s.word (worst g w.list)) s.claimed t at
    (record { on_time = refl; fills = λ h. absurd (false≢true h); same_scans = λ l. refl })
phase_straight g s i w sound t at drained Done e = t
