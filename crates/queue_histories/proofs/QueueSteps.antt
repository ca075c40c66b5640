-- What one call makes of a queue of leaves (`steps`): a put refused or placed, a pop that is closed, shuts or takes.
use Rattle.std.proofs.Common.{◌≡◌, ℕ, ◌<◌, ◌≤◌, List, [], ◌∷◌, ◌++◌, Some, None, Option, length, true, ltb, inl, inr, ⊎_elim, sym, refl, ap, ◌∙◌, subst, append_assoc, arith}
use Rattle.std.proofs.lemmas.Bool.{cond_both, ltb-true, ltb-false}
use Rattle.std.proofs.lemmas.List.{length-append}
use Rattle.std.proofs.lemmas.Option.{none-some, same_Some}
use Rattle.list_totals.specs.Standing.{In}
use Rattle.list_totals.specs.Totals.{one_if_same}
use Rattle.list_totals.proofs.Standing.{in_append}
use Rattle.list_totals.proofs.Totals.{total_push}
use Rattle.series_core.specs.declared.queue_words.Entry.{Entry}
use Rattle.series_core.specs.declared.queue_words.PutReply.{PutReply}
use Rattle.series_core.specs.declared.queue_words.PutReply.TheVariants.{Placed, Shut, Filled}
use Rattle.series_core.specs.declared.queue_words.PopReply.{PopReply}
use Rattle.series_core.specs.declared.queue_words.PopReply.TheVariants.{Leaf, Closed}
use Rattle.leaf_queues.specs.declared.calls.Call.{Call}
use Rattle.leaf_queues.specs.declared.calls.Call.TheVariants.{Put, Pop}
use Rattle.leaf_queues.specs.declared.calls.Reply.TheVariants.{Put as PutAnswer, Pop as PopAnswer}
use Rattle.leaf_queues.specs.PlainQueue.{PlainQueue, next, place, placed_in, pop_open, put_open, shut_with, taken_from}
use Rattle.search_machine.specs.Basics.{Ordered, entered}
use Rattle.search_machine.proofs.Entries.{bound_order, entered_place, in_placed, length_place, ordered_place}
use Rattle.queue_histories.specs.Histories.{Stepped, places_leaf}

-- a put that was refused changes nothing
refused : (q : PlainQueue) (e : Entry) (reply : PutReply)
    → ((v : ℕ) → reply ≡ Shut v → q.kept ≡ Some v)
    → ((c : ℕ) → reply ≡ Filled c → q.capacity ≤ q.placed)
    → ((l : ℕ) → places_leaf l (Put e) (PutAnswer reply) ≡ 0)
    → Stepped q q (Put e) (PutAnswer reply)
refused q e reply shut full none = record {
  shaped = λ s. s;
  capacity = refl;
  holds = λ l. let a = none l in omega arith;
  takes = λ l. omega arith;
  came = λ d h. inl h;
  shut = λ v h. absurd (cc);
  keeps = λ v h. h;
  kept = λ v h. inl h;
  drains = λ v h. absurd (cc);
  fills = λ d h. (refl, refl);
  was_shut = λ v h. shut v (cc);
  was_full = λ c h. full c (cc);
}

-- a put that was placed
placed : (q : PlainQueue) (e : Entry) → q.kept ≡ None
    → Stepped q (placed_in e q) (Put e) (PutAnswer Placed)
placed q e unshut = record {
  shaped = λ s. record {
    ordered = ordered_place e q.waiting s.ordered;
    placed = let a = s.placed in let b = length_place e q.waiting in omega arith;
    above = λ v h. absurd (none-some v h);
  };
  capacity = refl;
  holds = λ l. let a = entered_place l e q.waiting in omega arith;
  takes = λ l. omega arith;
  came = λ d h. ⊎_elim
      (λ (w : In d (place e q.waiting)). ⊎_elim
      (λ (same : d ≡ e). inr (ap Put (sym same), refl))
      (λ (old : In d q.waiting). inl (inl old))
      (in_placed d e q.waiting w))
      (λ (t : In d q.taken). inl (inr t))
      h;
  shut = λ v h. absurd (cc);
  keeps = λ v h. absurd (none-some v (sym unshut ∙ h));
  kept = λ v h. absurd (none-some v h);
  drains = λ v h. absurd (cc);
  fills = λ d h. (refl, sym unshut);
  was_shut = λ v h. absurd (cc);
  was_full = λ c h. absurd (cc);
}

-- a pop from a queue that was shut
was_closed : (q : PlainQueue) (v kept : ℕ) → q.kept ≡ Some kept
    → Stepped q q (Pop v) (PopAnswer (Closed kept))
was_closed q v kept is = record {
  shaped = λ s. s;
  capacity = refl;
  holds = λ l. omega arith;
  takes = λ l. omega arith;
  came = λ d h. inl h;
  shut = λ u h. is ∙ (cc);
  keeps = λ u h. h;
  kept = λ u h. inl h;
  drains = λ u h o. o;
  fills = λ d h. absurd (cc);
  was_shut = λ u h. absurd (cc);
  was_full = λ c h. absurd (cc);
}

-- a pop that shuts the queue
shuts : (q : PlainQueue) (v : ℕ) → q.kept ≡ None
    → (Ordered q.waiting → (e : Entry) → In e q.waiting → v < e.bound)
    → Stepped q (shut_with v q) (Pop v) (PopAnswer (Closed v))
shuts q v unshut far = record {
  shaped = λ s. record {
    ordered = s.ordered;
    placed = s.placed;
    above = λ u h e t.
        let a = same_Some v u h in let b = far s.ordered e t in omega arith;
  };
  capacity = refl;
  holds = λ l. omega arith;
  takes = λ l. omega arith;
  came = λ d h. inl h;
  shut = λ u h. (cc);
  keeps = λ u h. absurd (none-some u (sym unshut ∙ h));
  kept = λ u h. inr (ap Pop (same_Some v u h));
  drains = λ u h o. o;
  fills = λ d h. absurd (cc);
  was_shut = λ u h. absurd (cc);
  was_full = λ c h. absurd (cc);
}

-- a pop that takes the first of the waiting entries
takes_first : (q : PlainQueue) (v : ℕ) (e : Entry) (es : List Entry) → q.kept ≡ None
    → q.waiting ≡ e ∷ es → Stepped q (taken_from e es q) (Pop v) (PopAnswer (Leaf e))
takes_first q v e es unshut is = record {
  shaped = λ s. record {
    ordered = (subst Ordered is s.ordered).1;
    placed =
        let a = s.placed in
        let b = ap (λ (xs : List Entry). length xs) is in
        let c = length-append q.taken (e ∷ []) in
        omega arith;
    above = λ u h. absurd (none-some u h);
  };
  capacity = refl;
  holds = λ l.
      let a = ap (entered l) is in
      let b = total_push (λ (d : Entry). one_if_same l d.leaf) q.taken e in
      omega arith;
  takes = λ l. total_push (λ (d : Entry). one_if_same l d.leaf) q.taken e;
  came = λ d h. ⊎_elim
      (λ (w : In d es). inl (inl (subst (In d) (sym is) (inr w))))
      (λ (t : In d (q.taken ++ e ∷ [])). ⊎_elim
      (λ (old : In d q.taken). inl (inr old))
      (λ (new : In d (e ∷ [])). inl (inl (subst (In d) (sym is) (first d new))))
      (in_append d q.taken (e ∷ []) t))
      h;
  shut = λ u h. absurd (cc);
  keeps = λ u h. absurd (none-some u (sym unshut ∙ h));
  kept = λ u h. absurd (none-some u h);
  drains = λ u h o.
      subst Ordered (sym (append_assoc q.taken (e ∷ []) es))
      (subst (λ (xs : List Entry). Ordered (q.taken ++ xs)) is o);
  fills = λ d h. absurd (cc);
  was_shut = λ u h. absurd (cc);
  was_full = λ c h. absurd (cc);
}
  where
    first : (d : Entry) → In d (e ∷ []) → In d (e ∷ es)
    first d h = ⊎_elim (λ (same : d ≡ e). inl same) (λ (none : ⊥). absurd none) h

-- a put, by the kept limit
put_steps : (q : PlainQueue) (e : Entry) (k : Option ℕ) → q.kept ≡ k
    → Stepped q (put_open e q k).0 (Put e) (PutAnswer (put_open e q k).1)
put_steps q e (Some v) is =
    refused q e (Shut v) (λ u h. is ∙ (cc)) (λ c h. absurd (cc)) (λ l. refl)
put_steps q e None is = cond_both (ltb q.placed q.capacity)
    (placed_in e q, Placed)
    (q, Filled q.capacity)
    (λ (r : PlainQueue × PutReply). Stepped q r.0 (Put e) (PutAnswer r.1))
    (λ _. placed q e is)
    (λ b.
    refused q e (Filled q.capacity) (λ u h. absurd (cc)) (λ c h. ltb-false _ _ b) (λ l. refl))

-- a pop, by the kept limit and the waiting entries
pop_steps : (q : PlainQueue) (v : ℕ) (k : Option ℕ) (es : List Entry) → q.kept ≡ k
    → q.waiting ≡ es → Stepped q (pop_open v q k es).0 (Pop v) (PopAnswer (pop_open v q k es).1)
pop_steps q v (Some kept) es is w = was_closed q v kept is
pop_steps q v None [] is w = shuts q v is (λ o e t. absurd (subst (In e) w t))
pop_steps q v None (d ∷ ds) is w = cond_both (ltb v d.bound)
    (shut_with v q, Closed v)
    (taken_from d ds q, Leaf d)
    (λ (r : PlainQueue × PopReply). Stepped q r.0 (Pop v) (PopAnswer r.1))
    (λ b. shuts q v is (λ o e t. far b (subst Ordered w o) e (subst (In e) w t)))
    (λ _. takes_first q v d ds is w)
  where
    far : ltb v d.bound ≡ true → Ordered (d ∷ ds) → (x : Entry) → In x (d ∷ ds) → v < x.bound
    far b o x t =
        let above = ltb-true v d.bound b in
        ⊎_elim
        (λ (same : x ≡ d). let e = ap (λ (y : Entry). y.bound) same in omega arith)
        (λ (u : In x ds). let more = bound_order x d (o.0 x u) in omega arith)
        t

-- any call
pub steps : (q : PlainQueue) (call : Call) → Stepped q (next q call).0 call (next q call).1
steps q (Put e) = put_steps q e q.kept refl
steps q (Pop v) = pop_steps q v q.kept q.waiting refl refl
