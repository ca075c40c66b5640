-- Locked queues are lawful queues (`locked_laws`): after a pop they agree with one pop more.
use Rattle.std.proofs.Common.{◌≡◌, ℕ, ◌<◌, ◌++◌, List, [], ◌∷◌, length, sym, refl, ap, ◌∙◌, subst, inl, inr, ⊎_elim, Some, arith}
use Rattle.std.specs.Prelude.{slice_get}
use Rattle.std.proofs.lemmas.Bool.{cases_eq}
use Rattle.std.proofs.lemmas.Option.{same_Some, slice_get_within}
use Rattle.series_core.specs.declared.queue_words.PopReply.{PopReply}
use Rattle.turn_lock.specs.History.{entry}
use Rattle.leaf_queues.specs.declared.calls.Call.{Call}
use Rattle.leaf_queues.specs.declared.calls.Call.TheVariants.{Pop}
use Rattle.leaf_queues.specs.declared.calls.Reply.{Reply}
use Rattle.leaf_queues.specs.declared.calls.Reply.TheVariants.{Pop as PopAnswer}
use Rattle.search_machine.specs.OwnRecord.{PopMade}
use Rattle.search_machine.proofs.Places.{get_set, get_set_other, get_some}
use Rattle.live_query.specs.LockedQueues.{ArePopsOf, Called, LockedAgrees, LockedKept, LockedPops, QueuePass, SameLocks, calls_at, calls_of, pass_count}
use Rattle.live_query.proofs.Agreeing.{pops_here, pops_there}
use Rattle.live_query.proofs.DrainTies.{LawfulQueues}
use Rattle.live_query.proofs.FillTies.{get_here, set_length}

module _ (h k : LockedKept) (m : ℕ) (call : Call) (reply : Reply) (d : Called h m call reply k) where
  -- after a call at queue m its calls there are one more, and those at another queue are as they were
  called_here : calls_at k m ≡ calls_at h m ++ entry d.before.number call reply ∷ []
  called_here =
      ap (λ (k : LockedKept). calls_at k m) d.after
      ∙ ap calls_of (get_here h.passes m d.pass (slice_get_within h.passes m d.before d.at))
      ∙ d.made
      ∙ ap (λ o. calls_of o ++ entry d.before.number call reply ∷ []) (sym d.at)

  called_there : (n : ℕ) → (n ≡ m → ⊥) → calls_at k n ≡ calls_at h n
  called_there n ne =
      ap (λ (k : LockedKept). calls_at k n) d.after ∙ ap calls_of (get_set_other h.passes m n d.pass ne)

  called_length : length k.passes ≡ length h.passes
  called_length = ap (λ (k : LockedKept). length k.passes) d.after ∙ set_length h.passes m d.pass

  same_called : SameLocks h k
  same_called =
      subst (SameLocks h) (sym d.after) (record {
        locks = refl;
        passes = record {
          count = ap (λ (k : LockedKept). length k.passes) (sym d.after) ∙ called_length;
          each = λ n p q at_p at_q. ⊎_elim
              (λ (new : (n ≡ m) × (d.pass ≡ q)).
              ap (λ (r : QueuePass). r.number) (sym new.1) ∙ d.number
              ∙ ap (λ (r : QueuePass). r.number)
              (same_Some d.before p (sym d.at ∙ ap (slice_get h.passes) (sym new.0) ∙ at_p)))
              (λ (old : slice_get h.passes n ≡ Some q).
              ap (λ (r : QueuePass). r.number) (same_Some q p (sym old ∙ at_p)))
              (get_set h.passes m n q d.pass at_q);
        };
      })

locks_stay : (h : LockedKept) → SameLocks h h
locks_stay h = record {
  locks = refl;
  passes = record {
    count = refl;
    each = λ m p q at_p at_q. ap (λ (r : QueuePass). r.number) (same_Some q p (sym at_q ∙ at_p));
  };
}

-- what stayed the same twice stayed the same
locks_onward : (h k m : LockedKept) → SameLocks h k → SameLocks k m → SameLocks h m
locks_onward h k m first second = record {
  locks = second.locks ∙ first.locks;
  passes = record {
    count = second.passes.count ∙ first.passes.count;
    each = λ n p q at_p at_q.
        let r = get_some k.passes n
        (let a = slice_get_within m.passes n q at_q in let b = second.passes.count in omega arith) in
        second.passes.each n r.0 q r.1 at_q ∙ first.passes.each n p r.0 at_p r.1;
  };
}

same_locks : (h k : LockedKept) (m v : ℕ) (reply : PopReply) → LockedPops h m v reply k → SameLocks h k
same_locks h k m v reply (inl none) = subst (SameLocks h) (sym none.1) (locks_stay h)
same_locks h k m v reply (inr d) = same_called h k m (Pop v) (PopAnswer reply) d

pop_agrees : (h k : LockedKept) (ps : List PopMade) (m v : ℕ) (reply : PopReply) → m < length h.passes → LockedPops h m v reply k
    → LockedAgrees h ps → LockedAgrees k (record { queue = m; limit = v; reply = reply } ∷ ps)
pop_agrees h k ps m v reply inside (inl none) t n low = let out = none.0 in absurd (omega arith)
pop_agrees h k ps m v reply inside (inr d) t n low =
    let was : n < length h.passes = let s = called_length h k m (Pop v) (PopAnswer reply) d in omega arith in
    let made = entry d.before.number (Pop v) (PopAnswer reply) in
    let after : List PopMade = record { queue = m; limit = v; reply = reply } ∷ ps in
    ⊎_elim
    (λ (same : m ≡ n). subst (ArePopsOf n after)
    (sym (subst (λ (n : ℕ). calls_at k n ≡ calls_at h n ++ made ∷ []) same (called_here h k m (Pop v) (PopAnswer reply) d)))
    (pops_here n ps (calls_at h n) (t n was) m v reply made refl refl same))
    (λ (ne : m ≡ n → ⊥). subst (ArePopsOf n after)
    (sym (called_there h k m (Pop v) (PopAnswer reply) d n (λ e. ne (sym e))))
    (pops_there n ps (calls_at h n) (t n was) m v reply ne))
    (cases_eq m n)

pub locked_laws : LawfulQueues pass_count LockedPops SameLocks LockedAgrees
locked_laws = record {
  stays = locks_stay;
  onward = locks_onward;
  counted = λ q k same. same.passes.count;
  same = same_locks;
  agrees = pop_agrees;
}
