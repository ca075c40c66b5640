-- What a turn owes, so that a worker that stands for its record stands for the longer one.
use Rattle.std.proofs.Common.{List, Some, ap, arith, inl, inr, length, refl, subst, ℕ, ⊎_elim, ◌+◌, ◌<◌, ◌≡◌, ◌≢◌, ◌≤◌, ◌⊎◌}
use Rattle.list_totals.specs.Totals.{times, total}
use Rattle.search_machine.specs.declared.phase.Phase.{Phase}
use Rattle.search_machine.specs.declared.phase.Phase.TheVariants.{Aim, Claim, Done, Give, Late, Look, Offer, Pop}
use Rattle.search_machine.specs.Ground.{Ground}
use Rattle.search_machine.specs.Workers.{Worker, in_phase}
use Rattle.list_totals.specs.Standing.{In}
use Rattle.search_machine.specs.OwnRecord.{Below, Different, Far, Floored, OfferMade, OwnRecord, PopMade, PutMade, PutRight, WasPut, WasRefused, WasTaken, put_of, with_read}
use Rattle.search_machine.specs.Sound.{ListUnder, held, in_hand}
use Rattle.search_machine.specs.Stands.{OwnPhase, Stands, in_give, in_late, stands_in}
use Rattle.search_machine.proofs.RecordsGrow.{Grows, below_still, far_still, put_still, refused_still, grows_read, right_still, taken_still, under_still}

-- what a turn owes, where w becomes x and r becomes t
pub record Owned (g : Ground) (i : ℕ) (w x : Worker) (r t : OwnRecord) : Type 0 where
  -- the record has grown, and each leaf of a new root child is the start leaf or is held
  pub more : Grows r t
  pub news : (l : ℕ) → Below g t l → Below g r l ⊎ ((g.start ≡ Some l) ⊎ (0 < held l x))
  -- a leaf that is held no more was put or is far
  pub keeps : (l : ℕ) → 0 < held l w → (0 < held l x) ⊎ WasPut t l ⊎ Far g t l
  -- each new put is right, each new pop has the reply to a read as its limit and names a queue, and
  -- each new number is that of a root child
  pub puts : (p : PutMade) → In p t.puts → In p r.puts ⊎ PutRight g t p
  pub pops : (p : PopMade) → In p t.pops → In p r.pops ⊎ (In p.limit t.reads × (p.queue < g.queues))
  pub claims : (c : ℕ) → In (Some c) t.claims → In (Some c) r.claims ⊎ (c < length g.roots)
  -- each new scan is of a leaf that was taken or refused, no scan is lost, what was taken is
  -- scanned, and nothing is scanned twice
  pub scanned : (l : ℕ) → 0 < times l x.scanned
      → (0 < times l w.scanned) ⊎ WasTaken t l ⊎ WasRefused t l
  pub kept_scans : (l : ℕ) → 0 < times l w.scanned → 0 < times l x.scanned
  pub taken : (l : ℕ) → l < g.leaves → WasTaken t l → WasTaken r l ⊎ (0 < times l x.scanned)
  pub single : (l : ℕ) → times l x.scanned ≤ 1
  -- a leaf whose put was refused just now is in the hand, and one that was there is scanned or far
  -- where it is there no more
  pub refused : (l : ℕ) → WasRefused t l → WasRefused r l ⊎ (0 < in_late l x.phase)
  pub hand : (l : ℕ) → 0 < in_late l w.phase
      → (0 < times l x.scanned) ⊎ (0 < in_late l x.phase) ⊎ Far g t l
  -- the list, the places of each leaf, what is held, and the phase
  pub list : ListUnder g (Floored g t) x.scanned x.list
  pub once : Different t → (l : ℕ) → stands_in t x l ≤ 1
  pub held : (l : ℕ) → 0 < held l x → (0 < held l w) ⊎ ((g.start ≢ Some l) × Below g t l)
  pub phase : OwnPhase g t i x.rest x.list x.phase

-- a turn that pays what it owes takes a worker that stands for r to one that stands for t
pub owned : (g : Ground) (i : ℕ) (w x : Worker) (r t : OwnRecord) → Stands g i w r
    → Owned g i w x r t → Stands g i x t
owned g i w x r t s o = record {
  covers = λ l h. ⊎_elim
      (λ (b : Below g r l). ⊎_elim
      (λ (e : g.start ≡ Some l). inl e)
      (λ (c : (0 < held l w) ⊎ WasPut r l ⊎ Far g r l). ⊎_elim
      (λ (d : 0 < held l w). inr (o.keeps l d))
      (λ (d : WasPut r l ⊎ Far g r l). inr
      (inr (⊎_elim (λ (p : WasPut r l). inl (put_still g r t o.more l p))
      (λ (f : Far g r l). inr (far_still g r t o.more l f)) d)))
      c)
      (s.covers l b))
      (λ (n : (g.start ≡ Some l) ⊎ (0 < held l x)). ⊎_elim (λ (e : g.start ≡ Some l). inl e)
      (λ (d : 0 < held l x). inr (inl d)) n)
      (o.news l h);
  puts = λ p h. ⊎_elim (λ (a : In p r.puts). right_still g r t o.more p (s.puts p a))
      (λ (a : PutRight g t p). a) (o.puts p h);
  pops = λ p h. ⊎_elim
      (λ (a : In p r.pops). let old = s.pops p a in (o.more.reads p.limit old.0, old.1))
      (λ (a : In p.limit t.reads × (p.queue < g.queues)). a) (o.pops p h);
  claims = λ c h. ⊎_elim (λ (a : In (Some c) r.claims). s.claims c a)
      (λ (a : c < length g.roots). a) (o.claims c h);
  scanned = λ l h. ⊎_elim
      (λ (a : 0 < times l w.scanned). ⊎_elim
      (λ (b : (i ≡ 0) × (g.start ≡ Some l)). inl b)
      (λ (b : WasTaken r l ⊎ WasRefused r l). inr
      (⊎_elim (λ (c : WasTaken r l). inl (taken_still g r t o.more l c))
      (λ (c : WasRefused r l). inr (refused_still g r t o.more l c)) b))
      (s.scanned l a))
      (λ (a : WasTaken t l ⊎ WasRefused t l). inr a)
      (o.scanned l h);
  taken = λ l low h. ⊎_elim (λ (a : WasTaken r l). o.kept_scans l (s.taken l low a))
      (λ (a : 0 < times l x.scanned). a) (o.taken l low h);
  opening = λ l z start. o.kept_scans l (s.opening l z start);
  single = o.single;
  refused = λ l h. ⊎_elim
      (λ (a : WasRefused r l). ⊎_elim
      (λ (b : 0 < times l w.scanned). inl (o.kept_scans l b))
      (λ (b : (0 < in_late l w.phase) ⊎ Far g r l). ⊎_elim
      (λ (c : 0 < in_late l w.phase). o.hand l c)
      (λ (c : Far g r l). inr (inr (far_still g r t o.more l c)))
      b)
      (s.refused l a))
      (λ (a : 0 < in_late l x.phase). inr (inl a))
      (o.refused l h);
  list = o.list;
  once = o.once;
  held = λ l h. ⊎_elim
      (λ (a : 0 < held l w). let b = s.held l a in (b.0, below_still g r t o.more l b.1))
      (λ (a : (g.start ≢ Some l) × Below g t l). a)
      (o.held l h);
  phase = o.phase;
}

-- what is in the hand in Give or in Late is in the hand
both_in_hand : (l : ℕ) (phase : Phase) → in_give l phase + in_late l phase ≤ in_hand l phase
both_in_hand l Claim = omega arith
both_in_hand l Look = omega arith
both_in_hand l (Give m) = omega arith
both_in_hand l (Late m) = omega arith
both_in_hand l (Aim j) = omega arith
both_in_hand l (Pop j v) = omega arith
both_in_hand l (Offer next) = omega arith
both_in_hand l Done = omega arith

-- in Give
pub in_give_hand : (l : ℕ) (phase : Phase) → in_give l phase ≤ in_hand l phase
in_give_hand l phase = let a = both_in_hand l phase in omega arith

-- in Late
pub late_in_hand : (l : ℕ) (phase : Phase) → in_late l phase ≤ in_hand l phase
late_in_hand l phase = let a = both_in_hand l phase in omega arith

-- what a read owes, where no leaf is scanned
pub record Reads (g : Ground) (i : ℕ) (w x : Worker) (r t : OwnRecord) : Type 0 where
  pub keeps : (l : ℕ) → 0 < held l w → (0 < held l x) ⊎ WasPut t l ⊎ Far g t l
  pub hand : (l : ℕ) → 0 < in_late l w.phase
      → (0 < times l w.scanned) ⊎ (0 < in_late l x.phase) ⊎ Far g t l
  pub once : Different t → (l : ℕ) → stands_in t x l ≤ 1
  pub held : (l : ℕ) → 0 < held l x → (0 < held l w) ⊎ ((g.start ≢ Some l) × Below g t l)
  pub phase : OwnPhase g t i x.rest x.list x.phase

-- such a read takes a worker that stands for r to one that stands with the read
pub owned_by_read : (g : Ground) (i : ℕ) (w : Worker) (rest : List ℕ) (phase : Phase) (r : OwnRecord) (v : ℕ) → Stands g i w r
    → Reads g i w (record w { phase = phase; rest = rest }) r (with_read v r)
    → Stands g i (record w { phase = phase; rest = rest }) (with_read v r)
owned_by_read g i w rest phase r v s o = owned g i w (record w { phase = phase; rest = rest }) r (with_read v r) s (record {
  more = grows_read v r;
  puts = λ p h. inl h;
  pops = λ p h. inl h;
  claims = λ c h. inl h;
  news = λ l h. inl h;
  refused = λ l h. inl h;
  taken = λ l low h. inl h;
  single = s.single;
  scanned = λ l h. inl h;
  kept_scans = λ l h. h;
  list = under_still g r (with_read v r) (grows_read v r) w.scanned w.list s.list;
  keeps = o.keeps;
  hand = o.hand;
  once = o.once;
  held = o.held;
  phase = o.phase;
})

-- a turn that leaves the rest, the hand, the list and the scanned leaves, and makes no put
pub record Quiet (g : Ground) (i : ℕ) (w : Worker) (ph : Phase) (r t : OwnRecord) : Type 0 where
  pub more : Grows r t
  pub no_hand : (l : ℕ) → in_hand l w.phase ≡ 0
  pub no_hand_then : (l : ℕ) → in_hand l ph ≡ 0
  pub same_puts : t.puts ≡ r.puts
  pub news : (l : ℕ) → Below g t l → Below g r l
  pub pops : (p : PopMade) → In p t.pops → In p r.pops ⊎ (In p.limit t.reads × (p.queue < g.queues))
  pub claims : (c : ℕ) → In (Some c) t.claims → In (Some c) r.claims ⊎ (c < length g.roots)
  pub taken : (l : ℕ) → l < g.leaves → WasTaken t l → WasTaken r l ⊎ (0 < times l w.scanned)
  pub different : Different t → Different r
  pub phase : OwnPhase g t i w.rest w.list ph

-- a turn without a hand that only reads or offers is such a turn
pub only_told : (g : Ground) (i : ℕ) (w : Worker) (ph : Phase) (r : OwnRecord) (reads : List ℕ) (offers : List OfferMade)
    → Grows r (record r { reads = reads; offers = offers })
    → ((l : ℕ) → in_hand l w.phase ≡ 0) → ((l : ℕ) → in_hand l ph ≡ 0)
    → OwnPhase g (record r { reads = reads; offers = offers }) i w.rest w.list ph
    → Quiet g i w ph r (record r { reads = reads; offers = offers })
only_told g i w ph r reads offers more no_hand no_hand_then phase = record {
  more = more;
  no_hand = no_hand;
  no_hand_then = no_hand_then;
  same_puts = refl;
  news = λ l h. h;
  pops = λ p h. inl h;
  claims = λ c h. inl h;
  taken = λ l low h. inl h;
  different = λ d. d;
  phase = phase;
}

-- such a turn takes a worker that stands for r to one that stands for t
pub quiet : (g : Ground) (i : ℕ) (w : Worker) (phase : Phase) (r t : OwnRecord) → Stands g i w r
    → Quiet g i w phase r t → Stands g i (in_phase phase w) t
quiet g i w phase r t s q = owned g i w (in_phase phase w) r t s (record {
  more = q.more;
  news = λ l h. inl (q.news l h);
  keeps = λ l h. let a = q.no_hand l in let b = q.no_hand_then l in inl (omega arith);
  puts = λ p h. inl (subst (In p) q.same_puts h);
  pops = q.pops;
  claims = q.claims;
  scanned = λ l h. inl h;
  kept_scans = λ l h. h;
  taken = q.taken;
  single = s.single;
  refused = λ l h. inl (h.0, subst (In h.0) q.same_puts h.1, h.2, h.3);
  hand = λ l h. let a = q.no_hand l in let b = late_in_hand l w.phase in absurd (omega arith);
  list = under_still g r t q.more w.scanned w.list s.list;
  once = λ d l.
      let a = s.once (q.different d) l in
      let b = ap (λ (ps : List PutMade). total (put_of l) ps) q.same_puts in
      let c = in_give_hand l phase in
      let e = q.no_hand_then l in
      omega arith;
  held = λ l h. let a = q.no_hand l in let b = q.no_hand_then l in inl (omega arith);
  phase = q.phase;
})
