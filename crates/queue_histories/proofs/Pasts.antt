-- What any legal history makes of a queue (`pasts`): one call and then the rest, from the first call on.
use Rattle.std.proofs.Common.{◌≡◌, [], ◌∷◌, Some, inl, inr, ⊎_elim, sym, refl, ap, ◌∙◌, subst, arith}
use Rattle.list_totals.specs.Standing.{In}
use Rattle.series_core.specs.declared.queue_words.PutReply.TheVariants.{Placed}
use Rattle.turn_lock.specs.declared.object.Entry.{Entry as Made}
use Rattle.turn_lock.specs.History.{IsLegal, state_after}
use Rattle.leaf_queues.specs.declared.calls.Call.{Call}
use Rattle.leaf_queues.specs.declared.calls.Call.TheVariants.{Put, Pop}
use Rattle.leaf_queues.specs.declared.calls.Reply.{Reply}
use Rattle.leaf_queues.specs.declared.calls.Reply.TheVariants.{Put as PutAnswer}
use Rattle.leaf_queues.specs.PlainQueue.{PlainQueue, next}
use Rattle.queue_histories.specs.Histories.{History, Holds, Past, PlacedIn, PoppedIn, Stepped, answers}
use Rattle.queue_histories.proofs.QueueSteps.{steps}

-- no call makes nothing of a queue
nothing : (q : PlainQueue) → Past q q []
nothing q = record {
  shaped = λ s. s;
  capacity = refl;
  holds = λ l. omega arith;
  takes = λ l. omega arith;
  came = λ e h. inl h;
  shut = λ x v t. absurd t;
  keeps = λ v h. h;
  kept = λ v h. inl h;
  drains = λ pops o. o;
  fills = λ puts. (refl, refl);
}

-- what a call made of a queue, and then the history after it, is what both made
both : (q r t : PlainQueue) (x : Made Call Reply) (log : History)
    → Stepped q r x.call x.reply → Past r t log → Past q t (x ∷ log)
both q r t x log s p = record {
  shaped = λ h. p.shaped (s.shaped h);
  capacity = p.capacity ∙ s.capacity;
  holds = λ l. let a = s.holds l in let b = p.holds l in omega arith;
  takes = λ l. let a = s.takes l in let b = p.takes l in omega arith;
  came = λ e h. ⊎_elim
      (λ (back : Holds r e). ⊎_elim
      (λ (old : Holds q e). inl old)
      (λ (now : (x.call ≡ Put e) × (x.reply ≡ PutAnswer Placed)).
      inr (x, inl refl, now.0, now.1))
      (s.came e back))
      (λ (later : PlacedIn log e). inr (later.0, inr later.1, later.2, later.3))
      (p.came e h);
  shut = λ y v t is. ⊎_elim
      (λ (same : y ≡ x).
      p.keeps v (s.shut v (ap (λ (z : Made Call Reply). z.reply) (sym same) ∙ is)))
      (λ (later : In y log). p.shut y v later is)
      t;
  keeps = λ v h. p.keeps v (s.keeps v h);
  kept = λ v h. ⊎_elim
      (λ (back : r.kept ≡ Some v). ⊎_elim
      (λ (old : q.kept ≡ Some v). inl old)
      (λ (now : x.call ≡ Pop v). inr (x, inl refl, now))
      (s.kept v back))
      (λ (later : PoppedIn log v). inr (later.0, inr later.1, later.2))
      (p.kept v h);
  drains = λ pops o.
      let first = pops x (inl refl) in
      p.drains (λ y h. pops y (inr h)) (s.drains first.0 first.1 o);
  fills = λ puts.
      let first = puts x (inl refl) in
      let a = s.fills first.0 first.1 in
      let b = p.fills (λ y h. puts y (inr h)) in
      (b.0 ∙ a.0, b.1 ∙ a.1);
}

-- any legal history
pub pasts : (q : PlainQueue) (log : History) → IsLegal answers q log
    → Past q (state_after answers q log) log
pasts q [] legal = nothing q
pasts q (x ∷ log) legal =
    both q (next q x.call).0 (state_after answers (next q x.call).0 log) x log
    (subst (Stepped q (next q x.call).0 x.call) (sym legal.0) (steps q x.call))
    (pasts (next q x.call).0 log legal.1)
