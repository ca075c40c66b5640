-- Looks and puts keep a worker standing for its record.
use Rattle.std.proofs.Common.{List, Some, [], ap, arith, inl, inr, refl, subst, sym, true, ℕ, ⊎_elim, ◌%◌, ◌<◌, ◌∙◌, ◌∷◌, ◌≡◌, ◌≢◌, ◌≤◌}
use Rattle.std.proofs.lemmas.Bool.{cases_lt}
use Rattle.list_totals.specs.Totals.{one_if_same, times}
use Rattle.series_core.specs.declared.queue_words.PutReply.{PutReply}
use Rattle.series_core.specs.declared.queue_words.PutReply.TheVariants.{Filled, Placed, Shut}
use Rattle.search_machine.specs.declared.phase.Phase.{Phase}
use Rattle.search_machine.specs.declared.phase.Phase.TheVariants.{Claim, Give, Late, Look}
use Rattle.search_machine.specs.Ground.{Ground, entry_of}
use Rattle.search_machine.specs.Workers.{Worker, after_look, after_put, in_phase, skip, stopped}
use Rattle.list_totals.specs.Standing.{In}
use Rattle.search_machine.specs.OwnRecord.{Below, OwnRecord, PutMade, PutRight, is_refused, with_put, with_read}
use Rattle.search_machine.specs.Sound.{held, in_hand}
use Rattle.search_machine.specs.Stands.{OwnPhase, Stands, in_give, in_late}
use Rattle.search_machine.proofs.Counts.{counts_or_not, same_counts}
use Rattle.search_machine.proofs.HandsAndScans.{skip_cut, skip_fewer, skip_head}
use Rattle.search_machine.proofs.Owed.{owned, owned_by_read}
use Rattle.search_machine.proofs.RecordsGrow.{below_still, grows_put, near_still, phase_of, under_still}

-- stopping at the first leaf that is left
own_stopped : (g : Ground) (i : ℕ) (w : Worker) (r : OwnRecord) (v : ℕ) → Stands g i w r
    → w.phase ≡ Look → (ls : List ℕ) → skip g v w.rest ≡ ls
    → Stands g i (stopped w ls) (with_read v r)
own_stopped g i w r v s e [] is = owned_by_read g i w [] Claim r v s (record {
  keeps = λ l h. let a = ap (in_hand l) e in
      let b = ap (times l) is in inr (inr (v, inl refl, skip_cut g v l w.rest (omega arith)));
  hand = λ l h. let a = ap (in_late l) e in absurd (omega arith);
  once = λ d l. let a = s.once d l in omega arith;
  held = λ l h. absurd (omega arith);
  phase = refl;
})
own_stopped g i w r v s e (m ∷ ms) is =
    owned_by_read g i w ms (Give m) r v s (record {
      keeps = λ l h. ⊎_elim
          (λ (a : 0 < times l (skip g v w.rest)). let b = ap (times l) is in inl (omega arith))
          (λ (a : times l (skip g v w.rest) ≤ 0). let b = ap (in_hand l) e in
          inr (inr (v, inl refl, skip_cut g v l w.rest (omega arith))))
          (cases_lt 0 (times l (skip g v w.rest)));
      hand = λ l h. let a = ap (in_late l) e in absurd (omega arith);
      once = λ d l. let a = s.once d l in
          let b = ap (times l) is in let c = skip_fewer g v l w.rest in omega arith;
      held = λ l h. let b = ap (times l) is in let c = skip_fewer g v l w.rest in inl (omega arith);
      phase = (v, inl refl, skip_head g v m w.rest ms is);
    })

-- a read in Look
pub own_look : (g : Ground) (i : ℕ) (w : Worker) (r : OwnRecord) (v : ℕ) → Stands g i w r
    → w.phase ≡ Look → Stands g i (after_look g w v) (with_read v r)
own_look g i w r v s e = own_stopped g i w r v s e (skip g v w.rest) refl

module _ (g : Ground) (i : ℕ) (w : Worker) (r : OwnRecord) (l : ℕ) (s : Stands g i w r)
    (e : w.phase ≡ Give l) where
  -- the put that the turn makes
  abbrev made : PutReply → PutMade
  made reply = record { queue = l % g.queues; entry = entry_of g l; reply = reply }

  -- the leaf in the hand
  given : (g.start ≢ Some l) × Below g r l
  given = s.held l (let a = ap (in_hand l) e in let b = same_counts l in omega arith)

  -- the put is right
  made_right : (reply : PutReply) → PutRight g (with_put (made reply) r) (made reply)
  made_right reply = record {
    entry = refl;
    queue = refl;
    other = given.0;
    below = below_still g r (with_put (made reply) r) (grows_put (made reply) r) l given.1;
    near = near_still g r (with_put (made reply) r) (grows_put (made reply) r) l
        (phase_of g i w r (Give l) s e);
  }

  -- after the put, in whatever phase
  gives : (reply : PutReply) (phase : Phase) → ((m : ℕ) → held m (in_phase phase w) ≤ held m w)
      → ((m : ℕ) → in_give m phase ≡ 0) → (is_refused reply ≡ true → 0 < in_late l phase)
      → OwnPhase g (with_put (made reply) r) i w.rest w.list phase
      → Stands g i (in_phase phase w) (with_put (made reply) r)
  gives reply phase fewer none late right =
      owned g i w (in_phase phase w) r (with_put (made reply) r) s (record {
        more = grows_put (made reply) r;
        news = λ m h. inl h;
        keeps = λ m h. ⊎_elim
            (λ (c : (one_if_same m l ≡ 1) × (m ≡ l)). inr (inl (made reply, inl refl, sym c.1)))
            (λ (c : one_if_same m l ≡ 0). let a = ap (in_hand m) e in inl (omega arith))
            (counts_or_not m l);
        puts = λ p h. ⊎_elim
            (λ (same : p ≡ made reply). inr
            (subst (PutRight g (with_put (made reply) r)) (sym same) (made_right reply)))
            (λ (old : In p r.puts). inl old) h;
        pops = λ p h. inl h;
        claims = λ c h. inl h;
        scanned = λ m h. inl h;
        kept_scans = λ m h. h;
        taken = λ m low h. inl h;
        single = s.single;
        refused = λ m h. ⊎_elim
            (λ (same : h.0 ≡ made reply).
            let leaf : l ≡ m = sym (ap (λ (p : PutMade). p.entry.leaf) same) ∙ h.2 in
            let was : is_refused reply ≡ true = sym (ap (λ (p : PutMade). is_refused p.reply) same)
            ∙ h.3 in
            inr (subst (λ (n : ℕ). 0 < in_late n phase) leaf (late was)))
            (λ (old : In h.0 r.puts). inl (h.0, old, h.2, h.3))
            h.1;
        hand = λ m h. let a = ap (in_late m) e in absurd (omega arith);
        list = under_still g r (with_put (made reply) r) (grows_put (made reply) r) w.scanned w.list
            s.list;
        once = λ d m. let a = s.once d m in
            let b = ap (in_give m) e in let c = none m in omega arith;
        held = λ m h. let a = fewer m in inl (omega arith);
        phase = right;
      })

  -- a put, whatever the reply
  pub own_give : (reply : PutReply) → Stands g i (after_put w l reply) (with_put (made reply) r)
  own_give Placed =
      gives Placed Look (λ m. let a = ap (in_hand m) e in omega arith) (λ m. refl)
      (λ h. absurd (cc)) tt
  own_give (Shut k) =
      gives (Shut k) (Late l) (λ m. let a = ap (in_hand m) e in omega arith) (λ m. refl)
      (λ _. let a = same_counts l in
      omega arith) ((made_right (Shut k)).near, (made (Shut k), inl refl, refl, refl))
  own_give (Filled k) =
      gives (Filled k) (Late l) (λ m. let a = ap (in_hand m) e in omega arith) (λ m. refl)
      (λ _. let a = same_counts l in
      omega arith) ((made_right (Filled k)).near, (made (Filled k), inl refl, refl, refl))
