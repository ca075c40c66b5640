-- Locks and the rows of their passes, one lock more (`round_more`, `dealt_more`), and one column of passes less (`dealt_less`).
use Rattle.std.proofs.Common.{◌≡◌, ℕ, suc, ◌+◌, ◌<◌, List, [], ◌∷◌, ◌++◌, Some, length, sym, ap, ◌∙◌, subst, ⊎_elim, length-append, arith}
use Rattle.std.specs.Prelude.{slice_get}
use Rattle.std.proofs.lemmas.List.{map-append}
use Rattle.std.proofs.lemmas.Option.{slice_get_within, get_or_from_slice_get}
use Rattle.leaf_queues.specs.PlainQueue.{PlainQueue}
use Rattle.turn_lock.specs.Passes.{AreNewPasses, IsNewPass, callers_of, opening_of}
use Rattle.search_machine.proofs.Places.{get_some}
use Rattle.live_query.specs.LockedQueues.{AreOwn, QueueLock, QueuePass}
use Rattle.live_query.specs.LockParts.{AreDealt, AreFronts, AreRound, DealtFrom, Row}
use Rattle.query_core.proofs.Pushes.{at_push, push_both}

pub round_more : (qs : List PlainQueue) (n : ℕ) (ks : List QueueLock) (q : PlainQueue) (k : QueueLock) → AreRound qs n ks
    → opening_of k ≡ q → callers_of k ≡ n → AreRound (qs ++ q ∷ []) n (ks ++ k ∷ [])
round_more qs n ks q k r opens callers = record {
  openings = map-append opening_of ks (k ∷ [])
      ∙ ap (λ (l : List PlainQueue). l ++ opening_of k ∷ []) r.openings
      ∙ ap (λ (z : PlainQueue). qs ++ z ∷ []) opens;
  each = λ m l at. ⊎_elim
      (λ (old : slice_get ks m ≡ Some l). r.each m l old)
      (λ (new : (m ≡ length ks) × (k ≡ l)). ap callers_of (sym new.1) ∙ callers)
      (at_push ks k l m at);
}

-- the passes of a lock that has just begun
pub dealt_all : (k : QueueLock) (ps : List QueuePass) → length ps ≡ callers_of k → AreNewPasses k ps → DealtFrom k 0 ps
dealt_all k ps count new = record {
  count = omega arith;
  each = λ j p at.
      let low = slice_get_within ps j p at in
      subst (λ (n : ℕ). IsNewPass k n p) (let e : j ≡ 0 + j = omega arith in e)
      (subst (IsNewPass k j) (get_or_from_slice_get ps j p p at) (new j p low));
}

pub dealt_more : (ks : List QueueLock) (rows : List Row) (k : QueueLock) (row : Row) → AreDealt ks 0 rows
    → DealtFrom k 0 row.items → AreDealt (ks ++ k ∷ []) 0 (rows ++ row ∷ [])
dealt_more ks rows k row d one = record {
  count = let a = length-append rows (row ∷ []) in let b = length-append ks (k ∷ []) in let c = d.count in omega arith;
  each = push_both (λ m l r. DealtFrom l 0 r.items) ks rows k row (sym d.count) d.each one;
}

-- the next pass of each lock, and what is left of the rows
module _ (ks : List QueueLock) (n : ℕ) (old : List Row) (fronts : List QueuePass) (new : List Row)
    (d : AreDealt ks n old) (f : AreFronts old fronts new) where
  pub front_new : (m : ℕ) (k : QueueLock) (p : QueuePass) → slice_get ks m ≡ Some k → slice_get fronts m ≡ Some p
      → IsNewPass k n p
  front_new m k p at_k at_p =
      let low = slice_get_within ks m k at_k in
      let row = get_some old m (let a = d.count in omega arith) in
      let rest = get_some new m (let a = d.count in let b = f.same in omega arith) in
      let is = f.each m p rest.0 row.0 row.1 at_p rest.1 in
      subst (λ (n : ℕ). IsNewPass k n p) (let e : n + 0 ≡ n = omega arith in e)
      ((d.each m k row.0 at_k row.1).each 0 p (ap (λ (ps : List QueuePass). slice_get ps 0) is))

  pub fronts_own : AreOwn ks fronts
  fronts_own = record {
    count = f.count ∙ d.count;
    each = λ m k p at_k at_p. (front_new m k p at_k at_p).0;
  }

  pub dealt_less : AreDealt ks (n + 1) new
  dealt_less = record {
    count = f.same ∙ d.count;
    each = λ m k rest at_k at_rest.
        let low = slice_get_within ks m k at_k in
        let row = get_some old m (let a = d.count in omega arith) in
        let p = get_some fronts m (let a = d.count in let b = f.count in omega arith) in
        let is = f.each m p.0 rest row.0 row.1 p.1 at_rest in
        let from = d.each m k row.0 at_k row.1 in
        record {
          count = let a = from.count in let b = ap (λ (ps : List QueuePass). length ps) is in omega arith;
          each = λ j q at.
              subst (λ (i : ℕ). IsNewPass k i q) (let e : n + (suc j) ≡ n + 1 + j = omega arith in e)
              (from.each (suc j) q (ap (λ (ps : List QueuePass). slice_get ps (suc j)) is ∙ at));
        };
  }

-- while there are callers without passes, each row has one
pub rows_some : (ks : List QueueLock) (n : ℕ) (rows : List Row) → AreDealt ks n rows → (callers : ℕ)
    → ((m : ℕ) (k : QueueLock) → slice_get ks m ≡ Some k → callers_of k ≡ callers) → n < callers
    → (j : ℕ) (row : Row) → slice_get rows j ≡ Some row → 0 < length row.items
rows_some ks n rows d callers each more j row at =
    let low = slice_get_within rows j row at in
    let k = get_some ks j (let a = d.count in omega arith) in
    let a = (d.each j k.0 row k.1 at).count in
    let b = each j k.0 k.1 in
    omega arith
