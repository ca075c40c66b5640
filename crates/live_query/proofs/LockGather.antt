-- What the locks and the rows of passes are before and after the drain part over locked queues (`numbered`, `row_calls`), and that each
-- queue went by one history of calls from what it was (`went`).
use Rattle.std.proofs.Common.{◌≡◌, ℕ, List, [], None, Some, Option, length, map, refl, sym, ap, ◌∙◌, subst, arith}
use Rattle.std.specs.Prelude.{slice_get}
use Rattle.std.proofs.lemmas.List.{length-map}
use Rattle.std.proofs.lemmas.Option.{same_Some, slice_get_within}
use Rattle.best_word.specs.Passes.{Best}
use Rattle.leaf_queues.specs.PlainQueue.{PlainQueue}
use Rattle.turn_lock.specs.Passes.{opening_of}
use Rattle.subtree_build.specs.Index.{IndexParts}
use Rattle.search_machine.proofs.Places.{get_map, get_some}
use Rattle.search_task.specs.Questions.{Question}
use Rattle.live_query.specs.DrainHands.{DrainKept}
use Rattle.live_query.specs.LockedQueues.{ArePopsOf, LockedAgrees, LockedKept, QueueLock, QueuePass, SameLocks, calls_at, calls_of, pass_count}
use Rattle.live_query.specs.LockParts.{AreNumbered, AreRound, HasNew, Locking, Row, WentBy, calls_in, calls_in_row}
use Rattle.live_query.specs.Parts.{Resting}
use Rattle.live_query.proofs.Agreeing.{no_pops}
use Rattle.live_query.proofs.DrainGather.{Outset, Worked, came_at, team_count}
use Rattle.live_query.proofs.Places.{map_at}

-- new passes have called nothing
pub new_agrees : (locks : List QueueLock) (i : ℕ) (q : LockedKept) → HasNew locks i q → LockedAgrees q []
new_agrees locks i q new m inside =
    subst (ArePopsOf m []) (sym (by (slice_get q.passes m) refl)) (no_pops m)
  where
    by : (o : Option QueuePass) → slice_get q.passes m ≡ o → calls_of o ≡ []
    by None e = refl
    by (Some p) e =
        let low = slice_get_within q.passes m p e in
        let k = get_some locks m (let a = new.count in omega arith) in
        (new.fresh m k.0 p k.1 e).3

-- locks round queues, for each searcher
pub record Locked (queues : List PlainQueue) (m : ℕ) (team : List Resting) (locks : List QueueLock) : Type 0 where
  pub count : length queues ≡ m
  pub round : AreRound queues (length team) locks

pub lock_count : {queues : List PlainQueue} {m : ℕ} {team : List Resting} {locks : List QueueLock}
    → Locked queues m team locks → length locks ≡ m
lock_count {queues} {m} {team} {locks} locked =
    sym (length-map locks opening_of) ∙ ap (λ (qs : List PlainQueue). length qs) locked.round.openings ∙ locked.count

module _ {a : Question} {ix : IndexParts} {m : ℕ} {best : Best} {team : List Resting} {queues : List PlainQueue} {roots : ℕ}
    {locks : List QueueLock} {cells later : List Locking} (rows : List Row) (locked : Locked queues m team locks)
    (outset : Outset pass_count LockedAgrees (HasNew locks) a ix m best team roots cells)
    (worked : Worked SameLocks LockedAgrees cells later)
    (passes : map (λ (row : Row). row.items) rows ≡ map (λ (e : Locking). e.hand.queues.passes) later) where
  row_count : length rows ≡ length later
  row_count = sym (length-map rows (λ (row : Row). row.items)) ∙ ap (λ (l : List (List QueuePass)). length l) passes
      ∙ length-map later (λ (e : Locking). e.hand.queues.passes)

  pub team_rows : length rows ≡ length team
  team_rows = row_count ∙ team_count outset worked

  -- the row of a searcher is its passes
  row_is : (i : ℕ) (e : Locking) (row : Row) → slice_get later i ≡ Some e → slice_get rows i ≡ Some row
      → row.items ≡ e.hand.queues.passes
  row_is i e row at_e at_row =
      same_Some row.items e.hand.queues.passes
      (sym (map_at (λ (row : Row). row.items) rows i row at_row)
      ∙ ap (λ (l : List (List QueuePass)). slice_get l i) passes
      ∙ map_at (λ (e : Locking). e.hand.queues.passes) later i e at_e)

  pub numbered : AreNumbered rows
  numbered i j row p at_row at_p =
      let e = get_some later i (let low = slice_get_within rows i row at_row in let a = row_count in omega arith) in
      let r = came_at outset worked i e.0 e.1 in
      let there : slice_get e.0.hand.queues.passes j ≡ Some p
      = ap (λ (ps : List QueuePass). slice_get ps j) (sym (row_is i e.0 row e.1 at_row)) ∙ at_p in
      let q = get_some r.first.hand.queues.passes j
      (let low = slice_get_within e.0.hand.queues.passes j p there in let a = r.goes.queues.passes.count in omega arith) in
      let new = r.began.is.queues in
      let new_at : slice_get new.passes j ≡ Some q.0
      = ap (λ (h : DrainKept LockedKept). slice_get h.queues.passes j) (sym r.began.is.hand) ∙ q.1 in
      let k = get_some locks j
      (let low = slice_get_within new.passes j q.0 new_at in let a = r.began.is.new.count in omega arith) in
      r.goes.queues.passes.each j q.0 p q.1 there ∙ (r.began.is.new.fresh j k.0 q.0 k.1 new_at).1

  -- the calls of a searcher at queue j are those in its row
  pub row_calls : (i j : ℕ) (e : Locking) → slice_get later i ≡ Some e → calls_in rows i j ≡ calls_at e.hand.queues j
  row_calls i j e at =
      let row = get_some rows i (let low = slice_get_within later i e at in let a = row_count in omega arith) in
      ap (λ o. calls_in_row o j) row.1 ∙ ap (λ (ps : List QueuePass). calls_of (slice_get ps j)) (row_is i e row.0 at row.1)

  -- how many passes it has
  pub passes_there : (i : ℕ) (e : Locking) → slice_get later i ≡ Some e → length e.hand.queues.passes ≡ m
  passes_there i e at =
      let r = came_at outset worked i e at in
      r.goes.queues.passes.count ∙ ap (λ (h : DrainKept LockedKept). length h.queues.passes) r.began.is.hand ∙ r.began.is.new.count
      ∙ lock_count locked

  module _ (back : List PlainQueue) (back_count : length back ≡ length locks)
      (histories : (j : ℕ) (k : QueueLock) (r : PlainQueue) → slice_get locks j ≡ Some k → slice_get back j ≡ Some r
      → WentBy (length rows) (λ i. calls_in rows i j) (opening_of k) r) where
    pub back_are : length back ≡ m
    back_are = back_count ∙ lock_count locked

    -- each queue went by one history of their calls from what it was
    pub went : (j : ℕ) (q r : PlainQueue) → slice_get queues j ≡ Some q → slice_get back j ≡ Some r
        → WentBy (length rows) (λ i. calls_in rows i j) q r
    went j q r at_q at_r =
        let k = get_map opening_of locks j q (ap (λ (l : List PlainQueue). slice_get l j) locked.round.openings ∙ at_q) in
        subst (λ (q : PlainQueue). WentBy (length rows) (λ i. calls_in rows i j) q r) k.2 (histories j k.0 r k.1 at_r)
