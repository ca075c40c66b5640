-- Closing locks one after the other: each takes its pass from each row (`column_all`, `left_less`).
use Rattle.std.proofs.Common.{◌≡◌, ℕ, zero, suc, ◌++◌, ◌+◌, ◌<◌, List, [], ◌∷◌, Some, All, length, refl, sym, ap, ◌∙◌, subst, arith}
use Rattle.std.specs.Prelude.{slice_get}
use Rattle.std.proofs.lemmas.Option.{same_Some, slice_get_within, get_or_from_slice_get}
use Rattle.leaf_queues.specs.PlainQueue.{PlainQueue, next}
use Rattle.turn_lock.specs.History.{calls_by}
use Rattle.turn_lock.specs.Passes.{AgreesWith, AreAll, HasOneHistory, IsPassOf, callers_of, opening_of}
use Rattle.turn_lock.proofs.Passes.{all_in_order}
use Rattle.search_machine.proofs.Places.{get_some}
use Rattle.live_query.specs.LockedQueues.{AreOwn, QueueLock, QueuePass, calls_of}
use Rattle.live_query.specs.LockParts.{AreFronts, AreNumbered, Row, WentBy, calls_in, calls_in_row}
use Rattle.live_query.proofs.Places.{all_at, all_from}

-- of each row what stands from place n on is left
pub record LeftFrom (old : List Row) (n : ℕ) (new : List Row) : Type 0 where
  pub same : length new ≡ length old
  pub each : (i j : ℕ) (row rest : Row) → slice_get old i ≡ Some row → slice_get new i ≡ Some rest
      → slice_get rest.items j ≡ slice_get row.items (n + j)
  pub long : (i : ℕ) (row rest : Row) → slice_get old i ≡ Some row → slice_get new i ≡ Some rest
      → n + length rest.items ≡ length row.items

pub all_left : (rows : List Row) → LeftFrom rows 0 rows
all_left rows = record {
  same = refl;
  each = λ i j row rest at at_rest.
      let e : j ≡ 0 + j = omega arith in
      ap (λ (r : Row). slice_get r.items j) (same_Some rest row (sym at_rest ∙ at)) ∙ ap (slice_get row.items) e;
  long = λ i row rest at at_rest.
      let e = ap (λ (r : Row). length r.items) (same_Some rest row (sym at_rest ∙ at)) in omega arith;
}

module _ (rows : List Row) (n : ℕ) (old : List Row) (fronts : List QueuePass) (new : List Row)
    (l : LeftFrom rows n old) (f : AreFronts old fronts new) where
  pub left_less : LeftFrom rows (n + 1) new
  left_less = record {
    same = f.same ∙ l.same;
    each = λ i j row rest at at_rest.
        let low = slice_get_within rows i row at in
        let was = get_some old i (let a = l.same in omega arith) in
        let p = get_some fronts i (let a = l.same in let b = f.count in omega arith) in
        let is = f.each i p.0 rest was.0 was.1 p.1 at_rest in
        let e : n + (suc j) ≡ n + 1 + j = omega arith in
        ap (λ (ps : List QueuePass). slice_get ps (suc j)) (sym is) ∙ l.each i (suc j) row was.0 at was.1
        ∙ ap (slice_get row.items) e;
    long = λ i row rest at at_rest.
        let low = slice_get_within rows i row at in
        let was = get_some old i (let a = l.same in omega arith) in
        let p = get_some fronts i (let a = l.same in let b = f.count in omega arith) in
        let is = ap (λ (ps : List QueuePass). length ps) (f.each i p.0 rest was.0 was.1 p.1 at_rest) in
        let a = l.long i row was.0 at was.1 in
        omega arith;
  }

  -- the column of passes: that of row i stands in the row at place n
  pub column_at : (i : ℕ) (p : QueuePass) (row : Row) → slice_get fronts i ≡ Some p → slice_get rows i ≡ Some row
      → slice_get row.items n ≡ Some p
  column_at i p row at_p at =
      let low = slice_get_within rows i row at in
      let was = get_some old i (let a = l.same in omega arith) in
      let rest = get_some new i (let a = l.same in let b = f.same in omega arith) in
      let is = f.each i p rest.0 was.0 was.1 at_p rest.1 in
      let e : n ≡ n + 0 = omega arith in
      ap (slice_get row.items) e ∙ sym (l.each i 0 row was.0 at was.1)
      ∙ ap (λ (ps : List QueuePass). slice_get ps 0) is

  module _ (ks : List QueueLock) (k : QueueLock) (at : slice_get ks n ≡ Some k)
      (own : (i : ℕ) (row : Row) → slice_get rows i ≡ Some row → AreOwn ks row.items) (numbered : AreNumbered rows)
      (callers : callers_of k ≡ length rows) where
    row_of : (i : ℕ) → i < length fronts → (row : Row) × (slice_get rows i ≡ Some row)
    row_of i low = get_some rows i (let a = f.count in let b = l.same in omega arith)

    pub column_passes : All (λ p. IsPassOf k p) fronts
    column_passes = all_from (λ (p : QueuePass). IsPassOf k p) fronts (λ i p at_p.
        let row = row_of i (slice_get_within fronts i p at_p) in
        (own i row.0 row.1).each n k p at (column_at i p row.0 at_p row.1))

    pub column_all : AreAll k fronts
    column_all = all_in_order k fronts (f.count ∙ l.same ∙ sym callers) (λ i d low.
        let p = get_some fronts i low in
        let row = row_of i low in
        ap (λ (q : QueuePass). q.number) (get_or_from_slice_get fronts i p.0 d p.1)
        ∙ numbered i n row.0 p.0 row.1 (column_at i p.0 row.0 p.1 row.1))

    -- the history of the lock is that of the rows
    pub column_went : (r : PlainQueue) → HasOneHistory (λ q caller call. next q call) k fronts r
        → WentBy (length rows) (λ i. calls_in rows i n) (opening_of k) r
    column_went r h = record {
      log = h.log;
      leads = record { legal = h.legal; leads = h.leads };
      callers_only = subst (λ (n : ℕ). All (λ e. e.caller < n) h.log) callers h.callers_only;
      own = λ i low.
          let p = get_some fronts i (let a = f.count in let b = l.same in omega arith) in
          let row = row_of i (slice_get_within fronts i p.0 p.1) in
          let there = column_at i p.0 row.0 p.1 row.1 in
          let number = numbered i n row.0 p.0 row.1 there in
          ap (λ (j : ℕ). calls_by j h.log) (sym number)
          ∙ (all_at (AgreesWith h.log) fronts i p.0 h.passes p.1).1
          ∙ ap calls_of (sym there)
          ∙ ap (λ o. calls_in_row o n) (sym row.1);
    }

-- while there are locks, each row has a pass
pub left_some : (ks : List QueueLock) (rows : List Row) (n : ℕ) (old : List Row) → LeftFrom rows n old → n < length ks
    → ((i : ℕ) (row : Row) → slice_get rows i ≡ Some row → AreOwn ks row.items)
    → (j : ℕ) (row : Row) → slice_get old j ≡ Some row → 0 < length row.items
left_some ks rows n old l more own j row at =
    let low = slice_get_within old j row at in
    let from = get_some rows j (let a = l.same in omega arith) in
    let a = l.long j from.0 row from.1 at in
    let b = (own j from.0 from.1).count in
    omega arith

-- what stands in a list stands in its front where nothing is behind
pub get_all : {X : Type 0} (xs ys all : List X) (m : ℕ) (x : X) → xs ++ ys ≡ all → length ys ≡ 0
    → slice_get all m ≡ Some x → slice_get xs m ≡ Some x
get_all xs ys all m x is none at = by xs ys m none (subst (λ l. slice_get l m ≡ Some x) (sym is) at)
  where
    by : (xs ys : List _) (m : ℕ) → length ys ≡ 0 → slice_get (xs ++ ys) m ≡ Some x → slice_get xs m ≡ Some x
    by [] [] m none at = at
    by [] (y ∷ ys) m none at = absurd (omega arith)
    by (z ∷ zs) ys zero none at = at
    by (z ∷ zs) ys (suc m) none at = by zs ys m none at
