-- Sealed runs are lawful queues (`sealed_laws`): after a pop they agree with one pop more.
use Rattle.std.proofs.Common.{◌≡◌, ℕ, zero, suc, ◌+◌, ◌<◌, ◌≤◌, List, [], ◌∷◌, ◌⊎◌, None, Some, true, false, length, set, is_some, sym, refl, ap, ◌∙◌, subst, inl, inr, ⊎_elim, eqb, arith}
use Rattle.std.proofs.lemmas.Option.{none-some, same_Some}
use Rattle.std.proofs.lemmas.Bool.{cases_eq, cond-true, cond-false, eq-eqb, ne_eqb, true≢false}
use Rattle.list_totals.specs.Totals.{one_if_same, total}
use Rattle.list_totals.specs.Standing.{In}
use Rattle.list_totals.proofs.Totals.{total_push}
use Rattle.series_core.specs.declared.queue_words.Entry.{Entry}
use Rattle.series_core.specs.declared.queue_words.PopReply.{PopReply}
use Rattle.series_core.specs.declared.queue_words.PopReply.TheVariants.{Leaf, Closed}
use Rattle.sealed_runs.specs.Entries.{Run, run_at}
use Rattle.sealed_runs.specs.Visits.{Visit, visit_at, leaves}
use Rattle.search_machine.specs.OwnRecord.{PopMade}
use Rattle.search_machine.specs.Closes.{leaf_of, popped_of}
use Rattle.live_query.specs.SealedQueues.{IsIdle, PopsRun, SameRuns, SealedAgrees, SealedKept, SealedPops, given_of, run_count}
use Rattle.live_query.proofs.DrainTies.{LawfulQueues}

-- the visit that was written
pub visit_here : (vs : List Visit) (m : ℕ) (v : Visit) → m < length vs → visit_at (set vs m v) m ≡ v
visit_here [] m v low = absurd (omega arith)
visit_here (x ∷ xs) zero v low = refl
visit_here (x ∷ xs) (suc m) v low = visit_here xs m v (omega arith)

-- another visit is as it was
pub visit_other : (vs : List Visit) (m n : ℕ) (v : Visit) → (n ≡ m → ⊥) → visit_at (set vs m v) n ≡ visit_at vs n
visit_other [] m n v ne = refl
visit_other (x ∷ xs) zero zero v ne = absurd (ne refl)
visit_other (x ∷ xs) zero (suc n) v ne = refl
visit_other (x ∷ xs) (suc m) zero v ne = refl
visit_other (x ∷ xs) (suc m) (suc n) v ne = visit_other xs m n v (λ e. ne (ap suc e))

-- a pop from the queue itself counts its reply, and one from another queue counts nothing
popped_here : (m l : ℕ) (p : PopMade) → p.queue ≡ m → popped_of m l p ≡ leaf_of l p.reply
popped_here m l p e = cond-true (eqb p.queue m) (leaf_of l p.reply) 0 (eq-eqb p.queue m e)

popped_there : (m l : ℕ) (p : PopMade) → (p.queue ≡ m → ⊥) → popped_of m l p ≡ 0
popped_there m l p ne = cond-false (eqb p.queue m) (leaf_of l p.reply) 0 (ne_eqb p.queue m ne)

is_leaf_not_closed : (e : Entry) (v : ℕ) → Leaf e ≡ Closed v → ⊥
is_leaf_not_closed e v q =
    subst (λ (p : PopReply). elim p as (λ _. Type 0) [ Leaf e ↦ Unit {0} | Closed x ↦ ⊥ ]) q tt

-- some of the pops was answered Closed by queue n
abbrev WasClosed : List PopMade → ℕ → Type 0
WasClosed ps n = (p : PopMade) × (v : ℕ) × In p ps × (p.queue ≡ n) × (p.reply ≡ Closed v)

-- a Closed reply of the pop just made, or of an older one
closed_old : (ps : List PopMade) (p : PopMade) (n : ℕ) → WasClosed (p ∷ ps) n
    → ((p.queue ≡ n) × ((v : ℕ) × (p.reply ≡ Closed v))) ⊎ WasClosed ps n
closed_old ps p n w = ⊎_elim
    (λ (e : w.0 ≡ p).
    inl (ap (λ (q : PopMade). q.queue) (sym e) ∙ w.3, (w.1, ap (λ (q : PopMade). q.reply) (sym e) ∙ w.4)))
    (λ (i : In w.0 ps). inr (w.0, w.1, i, w.3, w.4))
    w.2

module _ (h : SealedKept) (ps : List PopMade) (m v : ℕ) (t : SealedAgrees h ps) where
  was_shut : (n : ℕ) → n < length h.runs → WasClosed ps n → is_some (visit_at h.visits n).closed ≡ true
  was_shut n low w = t.closed n w.0 w.1 low w.2 w.3 w.4

  -- a pop with v from queue m
  abbrev popped_with : PopReply → PopMade
  popped_with reply = record { queue = m; limit = v; reply = reply }

  -- the visit of the later hand, and the visits with it
  abbrev now : SealedKept → Visit
  now k = visit_at k.visits m

  abbrev visits : SealedKept → List Visit
  visits k = set h.visits m (now k)

  -- a pop that takes no step, answered Closed
  idle_tied : IsIdle h m → SealedAgrees h (popped_with (Closed v) ∷ ps)
  idle_tied idle = record {
    popped = λ n l low.
        let old = t.popped n l low in
        let none : popped_of n l (popped_with (Closed v)) ≡ 0 = ⊎_elim
        (λ (e : m ≡ n). popped_here n l (popped_with (Closed v)) e)
        (λ (ne : m ≡ n → ⊥). popped_there n l (popped_with (Closed v)) ne)
        (cases_eq m n) in
        omega arith;
    closed = λ n p u low i at is. ⊎_elim
        (λ (new : (m ≡ n) × ((u : ℕ) × (Closed v ≡ Closed u))). ⊎_elim
        (λ (out : length h.runs ≤ m). let same = new.0 in absurd (omega arith))
        (λ (shut : is_some (visit_at h.visits m).closed ≡ true).
        subst (λ (k : ℕ). is_some (visit_at h.visits k).closed ≡ true) new.0 shut)
        idle)
        (λ (old : WasClosed ps n). was_shut n low old)
        (closed_old ps (popped_with (Closed v)) n (p, u, i, at, is));
    kept = λ n u low e. let k = t.kept n u low e in (k.0, inr k.1, k.2, k.3);
  }

  -- a pop that takes a step
  module _ (k : SealedKept) (reply : PopReply) (d : PopsRun h m v reply k) where
    here : visit_at (visits k) m ≡ now k
    here = visit_here h.visits m (now k) d.visit

    other : (n : ℕ) → (m ≡ n → ⊥) → visit_at (visits k) n ≡ visit_at h.visits n
    other n ne = visit_other h.visits m n (now k) (λ q. ne (sym q))

    -- where the run that was popped handed out what the reply names, the pops count what each run handed out
    popped_now : ((l : ℕ) → given_of l (run_at h.runs m) (now k) ≡ given_of l (run_at h.runs m) (visit_at h.visits m) + leaf_of l reply)
        → (n l : ℕ) → n < length h.runs
        → total (popped_of n l) (popped_with reply ∷ ps) ≡ given_of l (run_at h.runs n) (visit_at (visits k) n)
    popped_now more n l low = ⊎_elim
        (λ (same : m ≡ n).
        let old = t.popped n l low in
        let one = popped_here n l (popped_with reply) same in
        let handed = more l in
        let there = ap (given_of l (run_at h.runs m)) here in
        let at = ap (λ (j : ℕ). given_of l (run_at h.runs j) (visit_at h.visits j)) same in
        let at_new = ap (λ (j : ℕ). given_of l (run_at h.runs j) (visit_at (visits k) j)) same in
        omega arith)
        (λ (ne : m ≡ n → ⊥).
        let old = t.popped n l low in
        let none = popped_there n l (popped_with reply) ne in
        let stays = ap (given_of l (run_at h.runs n)) (other n ne) in
        omega arith)
        (cases_eq m n)

    -- what a closed run keeps is a pop's limit, where that of the run that was popped is
    kept_now : ((n u : ℕ) → m ≡ n → (visit_at (visits k) n).closed ≡ Some u
        → (p : PopMade) × In p (popped_with reply ∷ ps) × (p.queue ≡ n) × (p.limit ≡ u))
        → (n u : ℕ) → n < length h.runs → (visit_at (visits k) n).closed ≡ Some u
        → (p : PopMade) × In p (popped_with reply ∷ ps) × (p.queue ≡ n) × (p.limit ≡ u)
    kept_now own n u low c = ⊎_elim
        (λ (same : m ≡ n). own n u same c)
        (λ (ne : m ≡ n → ⊥).
        let was : (visit_at h.visits n).closed ≡ Some u
        = ap (λ (x : Visit). x.closed) (sym (other n ne)) ∙ c in
        let k = t.kept n u low was in (k.0, inr k.1, k.2, k.3))
        (cases_eq m n)

  -- a pop that was answered by an entry
  leaf_tied : (k : SealedKept) (e : Entry) → PopsRun h m v (Leaf e) k
      → SealedAgrees k (popped_with (Leaf e) ∷ ps)
  leaf_tied k e d = subst (λ (k : SealedKept). SealedAgrees k (popped_with (Leaf e) ∷ ps)) (sym d.after) (record {
    popped = popped_now k (Leaf e) d (λ l.
        let f : Entry → ℕ = λ e. one_if_same l e.leaf in
        ap (total f) d.leaf.next ∙ total_push f (leaves (run_at h.runs m).entries (visit_at h.visits m)) e);
    closed = λ n p u low i at is. closed_now n low (p, u, i, at, is);
    kept = kept_now k (Leaf e) d (λ n u same c.
        let going : (visit_at (visits k) n).closed ≡ None
        = ap (λ (j : ℕ). (visit_at (visits k) j).closed) (sym same) ∙ ap (λ (x : Visit). x.closed) (here k (Leaf e) d)
        ∙ d.leaf.going in
        absurd (none-some u (sym going ∙ c)));
  })
    where
      closed_now : (n : ℕ) → n < length h.runs → WasClosed (popped_with (Leaf e) ∷ ps) n
          → is_some (visit_at (visits k) n).closed ≡ true
      closed_now n low w = ⊎_elim
          (λ (new : (m ≡ n) × ((u : ℕ) × (Leaf e ≡ Closed u))). absurd (is_leaf_not_closed e new.1.0 new.1.1))
          (λ (old : WasClosed ps n). ⊎_elim
          (λ (same : m ≡ n).
          let shut = was_shut n low old in
          let going : is_some (visit_at h.visits n).closed ≡ false
          = ap (λ (k : ℕ). is_some (visit_at h.visits k).closed) (sym same) ∙ ap is_some d.goes_on in
          absurd (true≢false (sym shut ∙ going)))
          (λ (ne : m ≡ n → ⊥). ap (λ (x : Visit). is_some x.closed) (other k (Leaf e) d n ne) ∙ was_shut n low old)
          (cases_eq m n))
          (closed_old ps (popped_with (Leaf e)) n w)

  -- a pop that was answered Closed
  shut_tied : (k : SealedKept) (told : ℕ) → PopsRun h m v (Closed told) k
      → SealedAgrees k (popped_with (Closed told) ∷ ps)
  shut_tied k told d = subst (λ (k : SealedKept). SealedAgrees k (popped_with (Closed told) ∷ ps)) (sym d.after) (record {
    popped = popped_now k (Closed told) d
        (λ l. let stays = ap (total (λ (e : Entry). one_if_same l e.leaf)) d.closed.none in omega arith);
    closed = λ n p u low i at is. closed_now n low (p, u, i, at, is);
    kept = kept_now k (Closed told) d
        (λ n u same c. ((popped_with (Closed told)), inl refl, same, same_Some v u (sym (shut_now n same) ∙ c)));
  })
    where
      shut_now : (n : ℕ) → m ≡ n → (visit_at (visits k) n).closed ≡ Some v
      shut_now n same =
          ap (λ (j : ℕ). (visit_at (visits k) j).closed) (sym same) ∙ ap (λ (x : Visit). x.closed) (here k (Closed told) d)
          ∙ d.closed.shut

      closed_now : (n : ℕ) → n < length h.runs → WasClosed (popped_with (Closed told) ∷ ps) n
          → is_some (visit_at (visits k) n).closed ≡ true
      closed_now n low w = ⊎_elim
          (λ (same : m ≡ n). ap is_some (shut_now n same))
          (λ (ne : m ≡ n → ⊥). ⊎_elim
          (λ (new : (m ≡ n) × ((u : ℕ) × (Closed told ≡ Closed u))). absurd (ne new.0))
          (λ (old : WasClosed ps n). ap (λ (x : Visit). is_some x.closed) (other k (Closed told) d n ne) ∙ was_shut n low old)
          (closed_old ps (popped_with (Closed told)) n w))
          (cases_eq m n)

  pop_tied : (k : SealedKept) (reply : PopReply) → SealedPops h m v reply k
      → SealedAgrees k (popped_with reply ∷ ps)
  pop_tied k reply (inl idle) =
      subst (λ (k : SealedKept). SealedAgrees k (popped_with reply ∷ ps)) (sym idle.2)
      (subst (λ (p : PopReply). SealedAgrees h (popped_with p ∷ ps)) (sym idle.1)
      (idle_tied idle.0))
  pop_tied k (Leaf e) (inr d) = leaf_tied k e d
  pop_tied k (Closed told) (inr d) = shut_tied k told d

-- a pop leaves the runs as they were
same_runs : (q k : SealedKept) (m v : ℕ) (reply : PopReply) → SealedPops q m v reply k → SameRuns q k
same_runs q k m v reply (inl idle) = record { runs = ap (λ (q : SealedKept). q.runs) idle.2 }
same_runs q k m v reply (inr d) = record { runs = ap (λ (q : SealedKept). q.runs) d.after }

pub sealed_laws : LawfulQueues run_count SealedPops SameRuns SealedAgrees
sealed_laws = record {
  stays = λ q. record { runs = refl };
  onward = λ q k n first second. record { runs = second.runs ∙ first.runs };
  counted = λ q k same. ap (λ (rs : List Run). length rs) same.runs;
  same = same_runs;
  agrees = λ q k ps m v reply low d t. pop_tied q ps m v t k reply d;
}
