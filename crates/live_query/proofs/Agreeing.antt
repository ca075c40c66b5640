-- How the calls at a queue and the pops of a record grow together, call by call.
use Rattle.std.proofs.Common.{◌≡◌, ℕ, ◌++◌, List, [], ◌∷◌, cond, sym, refl, ap, ◌∙◌, inl, inr, ⊎_elim, arith}
use Rattle.std.proofs.lemmas.Bool.{eq-eqb, ne_eqb}
use Rattle.list_totals.specs.Standing.{In}
use Rattle.list_totals.proofs.Standing.{in_behind, in_front}
use Rattle.list_totals.proofs.Totals.{total_push}
use Rattle.series_core.specs.declared.queue_words.PopReply.{PopReply}
use Rattle.turn_lock.specs.declared.object.Entry.{Entry as Made}
use Rattle.leaf_queues.specs.declared.calls.Call.{Call as QueueCall}
use Rattle.leaf_queues.specs.declared.calls.Call.TheVariants.{Pop as ToPop}
use Rattle.leaf_queues.specs.declared.calls.Reply.{Reply as QueueReply}
use Rattle.leaf_queues.specs.declared.calls.Reply.TheVariants.{Pop as PopAnswer}
use Rattle.search_machine.specs.Closes.{leaf_of, popped_of}
use Rattle.search_machine.specs.OwnRecord.{PopMade}
use Rattle.queue_histories.specs.Histories.{History, gives_leaf, taken_at}
use Rattle.live_query.specs.LockedQueues.{ArePopsOf}
use Rattle.live_query.proofs.Places.{in_pushed}

-- a pop counts at its queue as the call does, and not at another
popped_here : (m l v : ℕ) (reply : PopReply)
    → popped_of m l (record { queue = m; limit = v; reply = reply }) ≡ leaf_of l reply
popped_here m l v reply = ap (λ b. cond b (leaf_of l reply) 0) (eq-eqb m m refl)

popped_there : (m n l v : ℕ) (reply : PopReply) → (n ≡ m → ⊥)
    → popped_of m l (record { queue = n; limit = v; reply = reply }) ≡ 0
popped_there m n l v reply ne = ap (λ b. cond b (leaf_of l reply) 0) (ne_eqb n m ne)

-- without pops there are no calls
pub no_pops : (m : ℕ) → ArePopsOf m [] []
no_pops m = record { alone = λ y i. absurd i; taken = λ l. refl; made = λ y v i. absurd i; closed = λ p v i. absurd i }

module _ (m : ℕ) (ps : List PopMade) (calls : History) (a : ArePopsOf m ps calls) (n v : ℕ) (reply : PopReply) where
  abbrev pop : PopMade
  pop = record { queue = n; limit = v; reply = reply }

  -- a pop from another queue
  pub pops_there : (n ≡ m → ⊥) → ArePopsOf m (pop ∷ ps) calls
  pops_there ne = record {
    alone = a.alone;
    taken = λ l.
        let b = a.taken l in
        let d = popped_there m n l v reply ne in
        omega arith;
    made = λ z u i is. let p = a.made z u i is in (p.0, inr p.1, p.2);
    closed = λ p u i at is. ⊎_elim
        (λ (new : p ≡ pop). absurd (ne (ap (λ (q : PopMade). q.queue) (sym new) ∙ at)))
        (λ (old : In p ps). a.closed p u old at is)
        i;
  }

  -- a pop from this queue, with the call that made it
  pub pops_here : (z : Made QueueCall QueueReply) → z.call ≡ ToPop v → z.reply ≡ PopAnswer reply → n ≡ m
      → ArePopsOf m (pop ∷ ps) (calls ++ z ∷ [])
  pops_here z is_call is_reply here = record {
    alone = λ w i. in_pushed w z calls i
        (λ (old : In w calls). a.alone w old)
        (λ (same : w ≡ z). (v, ap (λ (t : Made QueueCall QueueReply). t.call) same ∙ is_call));
    taken = λ l.
        let t = total_push (taken_at l) calls z in
        let b = a.taken l in
        let d = popped_here m l v reply in
        let q = ap (λ k. popped_of m l (record { queue = k; limit = v; reply = reply })) here in
        let c : taken_at l z ≡ leaf_of l reply = ap (gives_leaf l) is_reply in
        omega arith;
    made = λ w u i is. in_pushed w z calls i
        (λ (old : In w calls). let p = a.made w u old is in (p.0, inr p.1, p.2))
        (λ (same : w ≡ z).
        let told : ToPop v ≡ ToPop u = sym is_call ∙ ap (λ (t : Made QueueCall QueueReply). t.call) (sym same) ∙ is in
        let limit_is : v ≡ u = cc in
        (pop, inl refl, limit_is));
    closed = λ p u i at is. ⊎_elim
        (λ (new : p ≡ pop). (
          z,
          in_behind z calls (z ∷ []) (inl refl),
          is_reply ∙ ap (λ (q : PopMade). PopAnswer q.reply) (sym new) ∙ ap PopAnswer is,
        ))
        (λ (old : In p ps).
        let r = a.closed p u old at is in (r.0, in_front r.0 calls (z ∷ []) r.1, r.2))
        i;
  }
