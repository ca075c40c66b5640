-- The next worker, and its pass.
use Rattle.std.proofs.Common.{◌≡◌, List, [], ◌∷◌, All, refl, sym, ap, ◌∙◌, subst, length-append, arith}
use Rattle.std.proofs.lemmas.List.Elements.{All-push}
use Rattle.sealed_runs.specs.Entries.{Run}
use Rattle.sealed_runs.specs.Visits.{IsPass}
use Rattle.live_query.specs.Parts.{Draining}
use Rattle.live_query.specs.SealedQueues.{SealedKept}
use Rattle.live_query.proofs.Places.{all_next, cut_later, map_more}
use Rattle.live_query.proofs.drain_part.dismiss.Goals as goal

pub loop-searcher-preserved : goal.loop-searcher-preserved
loop-searcher-preserved g c =
    let was = c.loop-searcher.invariant in
    let done : List Draining = c.loop-searcher.yielded in
    let searcher : Draining = c.in-Some.searcher in
    let pass = c.push_reserved-in-loop-searcher in
    record {
      whole = cut_later done c.in-Some.ensures.steps.0 was.whole;
      workers = map_more (λ (s : Draining). s.worker) done searcher searcher.worker c.loop-searcher.workers.items
          c.push_reserved.new.self.items c.push_reserved.ensures.items was.workers refl;
      passes = map_more (λ (s : Draining). s.hand.queues.visits) done searcher c.into_pass.result c.loop-searcher.passes.items
          pass.new.self.items pass.ensures.items was.passes
          (c.into_pass.ensures.pass ∙ ap (λ (q : SealedKept). q.visits) c.into_queues.ensures);
      len = omega (arith, pass.ensures.len, was.len, length-append done (searcher ∷ []));
      long = omega (arith, c.push_reserved.ensures.len, was.long, length-append done (searcher ∷ []));
      room = omega (arith, pass.ensures.capacity, was.room);
      space = omega (arith, c.push_reserved.ensures.capacity, was.space);
      own = λ runs all.
          subst (All (IsPass runs)) (sym pass.ensures.items)
          (All-push (IsPass runs) c.loop-searcher.passes.items c.into_pass.result (was.own runs all)
          (subst (λ (rs : List Run). IsPass rs c.into_pass.result)
          (ap (λ (q : SealedKept). q.runs) c.into_queues.ensures
          ∙ all_next done c.in-Some.ensures.steps.0 was.whole (λ (s : Draining). s.hand.queues.runs ≡ runs) all)
          c.into_pass.ensures.own));
    }
