-- The next searcher has its hand, with its draws and fresh marks.
use Rattle.std.proofs.Common.{ℕ, Bool, List, [], ◌∷◌, sym, ap, ◌∙◌, subst, length, length-append, replicate, false, arith}
use Rattle.live_query.specs.FillHands.{FillKept}
use Rattle.live_query.specs.Holding.{Held}
use Rattle.live_query.specs.Parts.{Between, filling}
use Rattle.live_query.specs.RootClaims.{IsOwn}
use Rattle.live_query.proofs.GoingOn.{hand_taken}
use Rattle.live_query.proofs.Places.{all_next, cut_later, map_more}
use Rattle.live_query.proofs.fill_part.equip.Goals as goal

pub new-requires-clause-own : goal.new-requires-clause-own
new-requires-clause-own g c =
    subst (λ (h : Held). IsOwn c.args.claims.now h.drawn) (sym (c.hand.view_is ∙ c.let_go-hand.ensures.hand))
    (all_next c.loop-searcher.yielded c.in-Some.ensures.steps.0 c.loop-searcher.invariant.whole
    (λ (s : Between). IsOwn c.args.claims.now s.hand.drawn) c.requires.own)

pub loop-searcher-preserved : goal.loop-searcher-preserved
loop-searcher-preserved g c =
    let was = c.loop-searcher.invariant in
    let done : List Between = c.loop-searcher.yielded in
    let searcher : Between = c.in-Some.searcher in
    let over : Held → List Bool → FillKept = λ h marks. record {
      roots = c.args.claims.now;
      drawn = h.drawn;
      seen = h.seen;
      queues = c.args.plan.now.queues;
      marks = marks;
    } in
    record {
      whole = cut_later done c.in-Some.ensures.steps.0 was.whole;
      len = omega (arith, c.push_reserved.ensures.len, was.len, length-append done (searcher ∷ []));
      room = omega (arith, c.push_reserved.ensures.capacity, was.room);
      ready = map_more (filling c.args.claims.now c.args.plan.now.queues (length c.args.plan.now.search.index.leaves)) done searcher
          c.take.result c.loop-searcher.ready.items c.push_reserved.new.self.items c.push_reserved.ensures.items was.ready
          (hand_taken searcher c.let_go-hand.ensures.rest c.take.ensures
          (c.new.ensures
          ∙ ap (λ (h : Held). over h c.in_ok-marks.marks.items) (c.hand.view_is ∙ c.let_go-hand.ensures.hand)
          ∙ ap (over searcher.hand)
          (c.in_ok-marks.ensures ∙ ap (λ (n : ℕ). replicate n false) c.leaf_count-leaves.ensures.count)));
    }
