-- The next searcher, and its pass.
use Rattle.std.proofs.Common.{◌≡◌, Bool, List, [], ◌∷◌, ap, ◌∙◌, length-append, arith}
use Rattle.best_word.specs.Passes.{Pass}
use Rattle.live_query.specs.FillHands.{FillKept}
use Rattle.live_query.specs.Parts.{Filling, resting}
use Rattle.live_query.specs.Resting.{Kept}
use Rattle.live_query.specs.RootClaims.{Drawn}
use Rattle.live_query.proofs.GoingOn.{hand_taken}
use Rattle.live_query.proofs.Places.{map_more}
use Rattle.live_query.proofs.fill_part.unequip.Goals as goal

pub loop-searcher-preserved : goal.loop-searcher-preserved
loop-searcher-preserved g c =
    let was = c.loop-searcher.invariant in
    let done : List Filling = c.loop-searcher.yielded in
    let searcher : Filling = c.in-Some.searcher in
    let parts = c.into_parts-drawing.ensures in
    let told = c.into_parts-drawing.result in
    let hand : FillKept = c.let_go-hand.result.0 in
    let handed : hand ≡ searcher.hand = c.let_go-hand.ensures.hand in
    let kept : Pass → List Bool → Kept = λ seen marks. record { seen = seen; marks = marks } in
    let rested = c.push_reserved-in-loop-searcher in
    record {
      can_next = tt;
      is_finite = tt;
      passes = map_more (λ (s : Filling). s.hand.drawn.pass) done searcher c.into_pass.result c.loop-searcher.passes.items
          c.push_reserved.new.self.items c.push_reserved.ensures.items was.passes
          (c.into_pass.ensures ∙ ap (λ (d : Drawn). d.pass) parts.drawn ∙ ap (λ (h : FillKept). h.drawn.pass) handed);
      rested = map_more resting done searcher c.take.result c.loop-searcher.rested.items
          rested.new.self.items rested.ensures.items was.rested
          (hand_taken searcher c.let_go-hand.ensures.rest c.take.ensures
          (ap (λ (p : Pass). kept p told.2.items) parts.seen
          ∙ ap (kept hand.seen) parts.marks
          ∙ ap (λ (h : FillKept). kept h.seen h.marks) handed));
      len = omega (arith, c.push_reserved.ensures.len, was.len, length-append done (searcher ∷ []));
      long = omega (arith, rested.ensures.len, was.long, length-append done (searcher ∷ []));
      room = omega (arith, c.push_reserved.ensures.capacity, was.room);
      space = omega (arith, rested.ensures.capacity, was.space);
    }
