-- One more queue has its lock, and the row of its passes.
use Rattle.std.proofs.Common.{◌≡◌, List, [], ◌∷◌, ◌++◌, sym, ◌∙◌, subst, length-append, arith}
use Rattle.live_query.specs.LockedQueues.{QueueLock}
use Rattle.live_query.specs.LockParts.{AreDealt, AreRound, Row}
use Rattle.live_query.proofs.LockRows.{dealt_all, dealt_more, round_more}
use Rattle.live_query.proofs.locks.begin_locks.Goals as goal

pub loop-queue-preserved : goal.loop-queue-preserved
loop-queue-preserved c =
    let was = c.loop-queue.invariant in
    let long = length-append c.loop-queue.yielded (c.in-Some.queue ∷ []) in
    let lock : QueueLock = c.in-Ok.lock in
    let row : Row = c.in-Ok.row in
    let begun = c.in-Ok.ensures in
    let pushed = c.push_reserved-in-loop-queue in
    let locks : c.push_reserved.new.self.items ≡ c.loop-queue.locks.items ++ lock ∷ [] = c.push_reserved.ensures.items in
    let rows : pushed.new.self.items ≡ c.loop-queue.rows.items ++ row ∷ [] = pushed.ensures.items in
    record {
      can_next = tt;
      is_finite = tt;
      len = omega (arith, c.push_reserved.ensures.len, was.len, long);
      long = omega (arith, pushed.ensures.len, was.long, long);
      room = omega (arith, c.push_reserved.ensures.capacity, was.room);
      space = omega (arith, pushed.ensures.capacity, was.space);
      round = subst (AreRound (c.loop-queue.yielded ++ c.in-Some.queue ∷ []) c.args.callers) (sym locks)
          (round_more c.loop-queue.yielded c.args.callers c.loop-queue.locks.items c.in-Some.queue lock was.round
          begun.opening begun.callers);
      dealt = subst (λ (ks : List QueueLock). AreDealt ks 0 pushed.new.self.items) (sym locks)
          (subst (AreDealt (c.loop-queue.locks.items ++ lock ∷ []) 0) (sym rows)
          (dealt_more c.loop-queue.locks.items c.loop-queue.rows.items lock row was.dealt
          (dealt_all lock row.items (begun.count ∙ sym begun.callers) begun.passes)));
    }
