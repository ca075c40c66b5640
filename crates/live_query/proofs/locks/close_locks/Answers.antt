-- The next lock is closed with the column of its passes.
use Rattle.std.proofs.Common.{◌≡◌, ◌+◌, ℕ, List, [], ◌∷◌, ◌++◌, length, sym, ap, ◌∙◌, subst, length-append, arith}
use Rattle.std.specs.Prelude.{slice_get}
use Rattle.std.specs.Vec.Iter.{into_iter_items}
use Rattle.std.proofs.lemmas.Option.{slice_get_within}
use Rattle.leaf_queues.specs.PlainQueue.{PlainQueue}
use Rattle.turn_lock.specs.Passes.{callers_of, opening_of}
use Rattle.live_query.specs.LockedQueues.{QueueLock}
use Rattle.live_query.specs.LockParts.{Row, WentBy, calls_in}
use Rattle.query_core.proofs.Pushes.{push_both}
use Rattle.live_query.proofs.LockColumns.{LeftFrom, column_all, column_passes, column_went, get_all, left_less, left_some}
use Rattle.live_query.proofs.Places.{at_next, cut_later}
use Rattle.live_query.proofs.locks.close_locks.Goals as goal

pub take_fronts-requires : goal.take_fronts-requires
take_fronts-requires c =
    let was = c.loop-lock.invariant in
    let n = length c.loop-lock.yielded in
    let at = at_next c.loop-lock.yielded c.in-Some.ensures.steps.0 was.whole in
    record {
      some = λ j row at_row.
          let low = slice_get_within c.args.locks.items n c.in-Some.lock at in
          let some = left_some c.args.locks.items c.args.rows.items n c.loop-lock.rows.items was.left low c.requires.own j row
          at_row in
          omega (arith, some, row.ok.0);
    }

pub close-requires : goal.close-requires
close-requires c =
    let was = c.loop-lock.invariant in
    let n = length c.loop-lock.yielded in
    let at = at_next c.loop-lock.yielded c.in-Some.ensures.steps.0 was.whole in
    let rows : List Row = c.args.rows.items in
    let callers : callers_of c.in-Some.lock ≡ length rows =
    omega (arith, c.requires.round.1.each n c.in-Some.lock at, c.args.rows.ok.0) in
    let passes = c.in_ok-passes.passes.items in
    let left = c.take_fronts.new.rows.items in
    record {
      passes = column_passes rows n c.loop-lock.rows.items passes left was.left c.in_ok-passes.ensures c.args.locks.items
          c.in-Some.lock at c.requires.own c.requires.numbered callers;
      all = column_all rows n c.loop-lock.rows.items passes left was.left c.in_ok-passes.ensures c.args.locks.items
          c.in-Some.lock at c.requires.own c.requires.numbered callers;
    }

pub loop-lock-preserved : goal.loop-lock-preserved
loop-lock-preserved c =
    let was = c.loop-lock.invariant in
    let done : List QueueLock = c.loop-lock.yielded in
    let lock : QueueLock = c.in-Some.lock in
    let n = length done in
    let at = at_next done c.in-Some.ensures.steps.0 was.whole in
    let callers = c.requires.round.1.each n lock at in
    let long = length-append done (lock ∷ []) in
    let count : n + 1 ≡ length (done ++ lock ∷ []) = omega arith in
    let rows : List Row = c.args.rows.items in
    record {
      whole = cut_later done c.in-Some.ensures.steps.0 was.whole;
      len = omega (arith, c.push_reserved.ensures.len, was.len, long);
      room = omega (arith, c.push_reserved.ensures.capacity, was.room);
      left = subst (λ (n : ℕ). LeftFrom rows n c.take_fronts.new.rows.items) count
          (left_less rows n c.loop-lock.rows.items c.in_ok-passes.passes.items c.take_fronts.new.rows.items was.left
          c.in_ok-passes.ensures);
      went = λ m k r at_k at_r.
          push_both (λ (m : ℕ) (k : QueueLock) (r : PlainQueue). WentBy (length rows) (λ i. calls_in rows i m) (opening_of k) r)
          done c.loop-lock.queues.items lock c.close.result (omega (arith, was.len, c.loop-lock.queues.ok.0)) was.went
          (column_went rows n c.loop-lock.rows.items c.in_ok-passes.passes.items c.take_fronts.new.rows.items was.left
          c.in_ok-passes.ensures c.args.locks.items lock at c.requires.own c.requires.numbered
          (omega (arith, callers, c.args.rows.ok.0)) c.close.result c.close.ensures)
          m k r at_k (ap (λ (qs : List PlainQueue). slice_get qs m) (sym c.push_reserved.ensures.items) ∙ at_r);
    }

pub returns-clause-went : goal.returns-clause-went
returns-clause-went c = λ m k r at_k at_r.
    let was = c.loop-lock.invariant in
    was.went m k r
    (get_all c.loop-lock.yielded (into_iter_items c.loop-lock.lock-iterator) c.args.locks.items m k was.whole
    (omega (arith, c.in-None.ensures.steps.0, c.loop-lock.lock-iterator.rest.ok.0)) at_k) at_r
