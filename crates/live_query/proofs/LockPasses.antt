-- Passes of locks in a row: after one of them made a call, each is still a pass of its lock (`own_set`).
use Rattle.std.proofs.Common.{◌≡◌, ℕ, List, Some, set, sym, ap, ◌∙◌, subst, ⊎_elim}
use Rattle.std.specs.Prelude.{slice_get}
use Rattle.std.proofs.lemmas.Option.{same_Some}
use Rattle.turn_lock.specs.Passes.{IsPassOf}
use Rattle.search_machine.proofs.Places.{get_set}
use Rattle.live_query.specs.LockedQueues.{AreOwn, QueueLock, QueuePass}
use Rattle.live_query.proofs.FillTies.{set_length}

pub own_set : (locks : List QueueLock) (passes : List QueuePass) (m : ℕ) (k : QueueLock) (p : QueuePass)
    → AreOwn locks passes → slice_get locks m ≡ Some k → IsPassOf k p → AreOwn locks (set passes m p)
own_set locks passes m k p own at is = record {
  count = set_length passes m p ∙ own.count;
  each = λ n l q at_l at_q. ⊎_elim
      (λ (new : (n ≡ m) × (p ≡ q)).
      let same = same_Some k l (sym at ∙ ap (slice_get locks) (sym new.0) ∙ at_l) in
      subst (λ (q : QueuePass). IsPassOf l q) new.1 (subst (λ (l : QueueLock). IsPassOf l p) same is))
      (λ (old : slice_get passes n ≡ Some q). own.each n l q at_l old)
      (get_set passes m n q p at_q);
}
