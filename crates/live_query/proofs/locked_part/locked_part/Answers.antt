-- What the searchers are before the drain part, and what the closed locks say after it.
use Rattle.std.proofs.Common.{◌≡◌, ℕ, List, ap, length, map, subst, sym, ◌∙◌, arith}
use Rattle.leaf_queues.specs.PlainQueue.{PlainQueue}
use Rattle.search_machine.specs.Outcome.{line_of}
use Rattle.live_query.specs.FilledQueues.{AreFilled}
use Rattle.live_query.specs.LockedQueues.{AreOwn, LockedAgrees, LockedKept, QueueLock, SameLocks, pass_count}
use Rattle.live_query.specs.LockParts.{AreRound, HasNew, Row}
use Rattle.live_query.specs.Parts.{AreEquipped, Resting}
use Rattle.live_query.proofs.DrainGather.{Outset, Worked, as_many, all_over, all_ready, all_still}
use Rattle.live_query.proofs.LockGather.{Locked, lock_count, new_agrees, numbered, team_rows}
use Rattle.live_query.proofs.LockedClose.{locked_right}
use Rattle.live_query.proofs.Places.{all_at}
use Rattle.live_query.proofs.PutsKept.{filled_over_view, filled_word}
use Rattle.live_query.proofs.locked_part.locked_part.Given as given
use Rattle.live_query.proofs.locked_part.locked_part.Goals as goal
use Rattle.live_query.proofs.locked_part.locked_part.Goals.{After-from-roots, In_ok-team, In_ok-workers}

pub filled_queues-requires-clause-over : goal.filled_queues-requires-clause-over
filled_queues-requires-clause-over g c = filled_over_view c.requires.filled c.deref.ensures.value

pub equip-requires-clause-word : goal.equip-requires-clause-word
equip-requires-clause-word g c = filled_word c.requires.filled

-- there are as many callers as searchers
round : (g : given.Over) (c : After-from-roots g)
    → Locked c.in_ok-queues.queues.items c.args.plan.now.queues c.args.team.items c.in_ok-locks.locks.items
round g c =
    let callers : c.len.result ≡ length c.args.team.items = omega (arith, c.len.ensures, c.args.team.ok.0) in
    record {
      count = c.in_ok-queues.ensures.count;
      round = subst (λ (n : ℕ). AreRound c.in_ok-queues.queues.items n c.in_ok-locks.locks.items) callers c.in_ok-locks.ensures.round;
    }

pub equip-requires-clause-round : goal.equip-requires-clause-round
equip-requires-clause-round g c =
    let at = goal.at.equip-requires-clause-round g c in (
      c.in_ok-queues.queues.items,
      subst (AreRound c.in_ok-queues.queues.items (length c.args.team.items)) (sym c.as_slice.ensures.value)
          (round g at.After-from-roots).round,
    )

-- each searcher has its hand over the locks
outset : (g : given.Over) (c : In_ok-team g)
    → Outset pass_count LockedAgrees (HasNew c.in_ok-locks.locks.items) c.args.plan.now.search.question c.args.plan.now.search.index
    c.args.plan.now.queues c.args.word.now c.args.team.items c.from-roots.result c.in_ok-team.team.items
outset g c = record {
  filled = c.requires.filled;
  all_roots = omega (arith, c.from-roots.ensures, c.root_count.ensures.count);
  equipped = subst (λ (ks : List QueueLock). AreEquipped (HasNew ks) c.from-roots.result c.args.team.items c.in_ok-team.team.items)
      c.as_slice.ensures.value c.in_ok-team.ensures;
  counts = λ i q new. new.count ∙ lock_count (round g (goal.at.In_ok-team g c).After-from-roots);
  agrees = new_agrees c.in_ok-locks.locks.items;
}

pub drain_locked-requires-clause-ready : goal.drain_locked-requires-clause-ready
drain_locked-requires-clause-ready g c κs within =
    all_ready (outset g (goal.at.drain_locked-requires-clause-ready g c).In_ok-team)

-- each searcher has drained
worked : (g : given.Over) (c : In_ok-workers g) → Worked SameLocks LockedAgrees c.in_ok-team.team.items c.drain_locked.new.team.items
worked g c = record {
  count = omega (arith, c.drain_locked.ensures.len, c.drain_locked.new.team.ok.0, c.in_ok-team.team.ok.0);
  on = c.drain_locked.ensures.goes_on;
}

pub close_locks-requires-clause-round : goal.close_locks-requires-clause-round
close_locks-requires-clause-round g c =
    let at = goal.at.close_locks-requires-clause-round g c in
    let round = round g at.After-from-roots in
    let many = team_rows c.in_ok-workers.rows.items round (outset g at.In_ok-team) (worked g at.In_ok-workers) c.in_ok-workers.ensures.rows in (
      c.in_ok-queues.queues.items,
      subst (λ (n : ℕ). AreRound c.in_ok-queues.queues.items n c.in_ok-locks.locks.items)
          (omega (arith, many, c.in_ok-workers.rows.ok.0)) round.round,
    )

pub close_locks-requires-clause-own : goal.close_locks-requires-clause-own
close_locks-requires-clause-own g c = λ i row row_at.
    let at = goal.at.close_locks-requires-clause-own g c in
    let locks = c.in_ok-locks.locks.items in
    all_at (λ (row : Row). AreOwn locks row.items) c.in_ok-workers.rows.items i row
    (c.in_ok-workers.ensures.own locks (all_still (outset g at.In_ok-team) (worked g at.In_ok-workers)
    (λ (q : LockedKept). q.locks ≡ locks) (λ i q k new same. same.locks ∙ new.locks_are))) row_at

pub close_locks-requires-clause-numbered : goal.close_locks-requires-clause-numbered
close_locks-requires-clause-numbered g c =
    let at = goal.at.close_locks-requires-clause-numbered g c in
    numbered c.in_ok-workers.rows.items (round g at.After-from-roots) (outset g at.In_ok-team) (worked g at.In_ok-workers) c.in_ok-workers.ensures.rows

pub returns-clause-drained : goal.returns-clause-drained
returns-clause-drained g c =
    let at = goal.at.returns-clause-drained g c in
    let out = outset g at.In_ok-team in
    let done = worked g at.In_ok-workers in
    let back : List PlainQueue = c.in_ok-queues-2.queues.items in
    let locks : List QueueLock = c.in_ok-locks.locks.items in
    let count : length back ≡ length locks = omega (arith, c.in_ok-queues-2.ensures.len, c.in_ok-queues-2.queues.ok.0) in
    let is = c.in_ok-workers.ensures in
    let many = as_many out done c.in_ok-workers.workers.items is.workers in
    record {
      over = all_over out done c.in_ok-workers.workers.items is.workers;
      ends = locked_right c.in_ok-workers.rows.items (round g at.After-from-roots)
          (subst (λ (t : List Resting). AreFilled c.args.plan.now.search.question c.args.plan.now.search.index t c.args.plan.now.queues
          c.in_ok-queues.queues.items) c.deref.ensures.value c.in_ok-queues.ensures.filled)
          out done is.rows (length c.in_ok-workers.workers.items)
          (record { some_worker = omega (arith, many, c.requires.team.0); as_many = many; done = c.drain_locked.ensures.done })
          back count c.in_ok-queues-2.ensures.went c.in_ok-workers.workers.items c.in_ok-lines.lines is.workers
          (c.in_ok-lines.ensures ∙ ap (map line_of) c.deref-2.ensures.value);
    }
