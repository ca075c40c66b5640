-- The next worker, and its passes.
use Rattle.std.proofs.Common.{◌≡◌, List, [], ◌∷◌, ◌++◌, All, map, refl, sym, ap, ◌∙◌, subst, length-append, arith}
use Rattle.std.proofs.lemmas.List.{map-append}
use Rattle.std.proofs.lemmas.List.Elements.{All-push}
use Rattle.live_query.specs.LockedQueues.{AreOwn, LockedKept, QueueLock, QueuePass}
use Rattle.live_query.specs.LockParts.{Locking, Row}
use Rattle.live_query.proofs.Places.{all_next, cut_later, map_more}
use Rattle.live_query.proofs.locked_team.dismiss.Goals as goal

pub loop-searcher-preserved : goal.loop-searcher-preserved
loop-searcher-preserved g c =
    let was = c.loop-searcher.invariant in
    let done : List Locking = c.loop-searcher.yielded in
    let searcher : Locking = c.in-Some.searcher in
    let row : Row = c.into_passes.result in
    let rows = c.push_reserved-in-loop-searcher in
    let items : Row → List QueuePass = λ row. row.items in
    let own_passes : Locking → List QueuePass = λ c. c.hand.queues.passes in
    record {
      whole = cut_later done c.in-Some.ensures.steps.0 was.whole;
      workers = map_more (λ (s : Locking). s.worker) done searcher searcher.worker c.loop-searcher.workers.items
          c.push_reserved.new.self.items c.push_reserved.ensures.items was.workers refl;
      passes = ap (map items) rows.ensures.items
          ∙ map-append items c.loop-searcher.rows.items (row ∷ [])
          ∙ ap (λ (l : List (List QueuePass)). l ++ row.items ∷ []) was.passes
          ∙ ap (λ (z : List QueuePass). map own_passes done ++ z ∷ [])
          (c.into_passes.ensures.passes ∙ ap (λ (q : LockedKept). q.passes) c.into_queues.ensures)
          ∙ sym (map-append own_passes done (searcher ∷ []));
      len = omega (arith, rows.ensures.len, was.len, length-append done (searcher ∷ []));
      long = omega (arith, c.push_reserved.ensures.len, was.long, length-append done (searcher ∷ []));
      room = omega (arith, rows.ensures.capacity, was.room);
      space = omega (arith, c.push_reserved.ensures.capacity, was.space);
      own = λ locks all.
          subst (All (λ (row : Row). AreOwn locks row.items)) (sym rows.ensures.items)
          (All-push (λ (row : Row). AreOwn locks row.items) c.loop-searcher.rows.items row (was.own locks all)
          (subst (λ (ks : List QueueLock). AreOwn ks row.items)
          (ap (λ (q : LockedKept). q.locks) c.into_queues.ensures
          ∙ all_next done c.in-Some.ensures.steps.0 was.whole (λ (s : Locking). s.hand.queues.locks ≡ locks) all)
          c.into_passes.ensures.own));
    }
