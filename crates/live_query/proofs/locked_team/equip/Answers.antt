-- The next searcher has its hand, with the next pass of each lock.
use Rattle.std.proofs.Common.{◌≡◌, ◌+◌, ℕ, List, [], ◌∷◌, ◌++◌, length, refl, sym, ap, ◌∙◌, subst, length-append, arith}
use Rattle.std.proofs.lemmas.Option.{slice_get_within}
use Rattle.live_query.specs.LockParts.{AreDealt, HasNew}
use Rattle.live_query.specs.Parts.{Resting}
use Rattle.live_query.specs.Resting.{Kept}
use Rattle.live_query.proofs.DrainGather.{equipped_more}
use Rattle.live_query.proofs.LockRows.{dealt_less, front_new, fronts_own, rows_some}
use Rattle.live_query.proofs.Places.{at_next, cut_later}
use Rattle.live_query.proofs.locked_team.equip.Goals as goal

pub take_fronts-requires : goal.take_fronts-requires
take_fronts-requires g c =
    let was = c.loop-searcher.invariant in
    let low = slice_get_within c.args.team.items (length c.loop-searcher.yielded) c.in-Some.searcher
    (at_next c.loop-searcher.yielded c.in-Some.ensures.steps.0 was.whole) in
    record {
      some = λ j row at.
          let some = rows_some c.args.locks.now (length c.loop-searcher.yielded) c.loop-searcher.rows.items was.dealt
          (length c.args.team.items) c.requires.round.1.each low j row at in
          omega (arith, some, row.ok.0);
    }

pub new-queues-requires : goal.new-queues-requires
new-queues-requires g c = record {
  own = fronts_own c.args.locks.now (length c.loop-searcher.yielded) c.loop-searcher.rows.items c.in_ok-passes.passes.items
      c.take_fronts.new.rows.items c.loop-searcher.invariant.dealt c.in_ok-passes.ensures;
}

pub loop-searcher-preserved : goal.loop-searcher-preserved
loop-searcher-preserved g c =
    let was = c.loop-searcher.invariant in
    let done : List Resting = c.loop-searcher.yielded in
    let searcher : Resting = c.in-Some.searcher in
    let count : length done + 1 ≡ length (done ++ searcher ∷ []) = omega (arith, length-append done (searcher ∷ [])) in
    let locks = c.args.locks.now in
    let old = c.loop-searcher.rows.items in
    let passes = c.in_ok-passes.passes.items in
    let new = c.take_fronts.new.rows.items in
    record {
      whole = cut_later done c.in-Some.ensures.steps.0 was.whole;
      len = omega (arith, c.push_reserved.ensures.len, was.len, length-append done (searcher ∷ []));
      room = omega (arith, c.push_reserved.ensures.capacity, was.room);
      dealt = subst (λ (n : ℕ). AreDealt locks n new) count
          (dealt_less locks (length done) old passes new was.dealt c.in_ok-passes.ensures);
      equipped = equipped_more (HasNew locks) c.args.roots done c.loop-searcher.ready.items searcher c.take.result
          c.new-queues.result was.equipped c.push_reserved.ensures.items c.let_go-hand.ensures.rest c.take.ensures
          c.new.ensures (ap (λ (k : Kept). k.seen) (c.hand.view_is ∙ c.let_go-hand.ensures.hand))
          (subst (HasNew locks (length done)) (sym c.new-queues.ensures) (record {
            locks_are = refl;
            count = c.in_ok-passes.ensures.count ∙ was.dealt.count;
            fresh = front_new locks (length done) old passes new was.dealt c.in_ok-passes.ensures;
          }));
    }
