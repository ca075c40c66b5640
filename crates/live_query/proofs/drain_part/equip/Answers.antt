-- The next searcher has its hand, with the next pass.
use Rattle.std.proofs.Common.{List, [], ◌∷◌, All, ap, ◌∙◌, subst, length-append, arith}
use Rattle.sealed_runs.specs.Visits.{Visit}
use Rattle.live_query.specs.SealedQueues.{IsFresh, IsFreshPass, SealedKept}
use Rattle.live_query.specs.Parts.{Resting}
use Rattle.live_query.specs.Resting.{Kept}
use Rattle.live_query.proofs.DrainGather.{equipped_more}
use Rattle.live_query.proofs.Places.{all_ends, cut_later}
use Rattle.live_query.proofs.drain_part.equip.Goals as goal

pub new-queues-requires-clause-pass : goal.new-queues-requires-clause-pass
new-queues-requires-clause-pass g c =
    let runs = c.args.runs.now.runs in
    (all_ends (IsFreshPass runs) c.pop.new.self.items c.in-Some-pop.pass
    (subst (All (IsFreshPass runs)) c.in-Some-pop.ensures.items c.loop-searcher.invariant.passes)).1.1

pub loop-searcher-preserved : goal.loop-searcher-preserved
loop-searcher-preserved g c =
    let was = c.loop-searcher.invariant in
    let done : List Resting = c.loop-searcher.yielded in
    let searcher : Resting = c.in-Some.searcher in
    let runs = c.args.runs.now.runs in
    let over : List Visit → SealedKept = λ visits. record { runs = runs; visits = visits } in
    let split = all_ends (IsFreshPass runs) c.pop.new.self.items c.in-Some-pop.pass
    (subst (All (IsFreshPass runs)) c.in-Some-pop.ensures.items was.passes) in
    record {
      whole = cut_later done c.in-Some.ensures.steps.0 was.whole;
      len = omega (arith, c.push_reserved.ensures.len, was.len, length-append done (searcher ∷ []));
      left = omega (arith, was.left, length-append done (searcher ∷ []), c.in-Some-pop.ensures.len);
      room = omega (arith, c.push_reserved.ensures.capacity, was.room);
      passes = split.0;
      equipped = equipped_more (IsFresh runs) c.args.roots done c.loop-searcher.ready.items searcher c.take.result
          c.new-queues.result was.equipped c.push_reserved.ensures.items c.let_go-hand.ensures.rest c.take.ensures
          c.new.ensures (ap (λ (k : Kept). k.seen) (c.hand.view_is ∙ c.let_go-hand.ensures.hand))
          (c.new-queues.ensures ∙ ap over split.1.0);
    }
