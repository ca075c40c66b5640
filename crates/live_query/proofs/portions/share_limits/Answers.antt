-- The next worker gets its limits, and is else as it opened.
use Rattle.std.proofs.Common.{◌≡◌, ◌<◌, ◌-◌, ◌%◌, ℕ, suc, Some, length, sym, ap, ◌∙◌, subst, arith}
use Rattle.std.specs.Prelude.{slice_get, vec_len}
use Rattle.std.proofs.lemmas.Option.{slice_get-get_or, slice_get_within}
use Rattle.search_machine.specs.Ground.{Ground}
use Rattle.search_machine.proofs.Places.{get_some}
use Rattle.query_core.specs.Portions.{AreLimits, Limited}
use Rattle.search_task.specs.Questions.{search_over}
use Rattle.query_core.specs.Turning.{search_of}
use Rattle.query_core.specs.Working.{IsOf, Shows, Working, opens_as}
use Rattle.live_query.proofs.Openers.{search_at}
use Rattle.live_query.proofs.PortionsDealt.{hired_shared, limits_dealt}
use Rattle.live_query.proofs.portions.share_limits.Given.{Over}
use Rattle.live_query.proofs.portions.share_limits.Goals as goal

-- the worker at the place of the loop
worker_at : (g : Over) (c : goal.After-new g) → slice_get c.loop-i.workers.items c.loop-i.i ≡ Some c.index_mut.result.now
worker_at g c =
    let was = c.loop-i.invariant in
    let i = c.loop-i.i in
    let w : Working = c.index_mut.result.now in
    let low : i < length c.loop-i.workers.items = omega (arith, c.loop-i-test.true, c.len-i-end.ensures, was.len, c.loop-i.workers.ok.0) in
    slice_get-get_or c.loop-i.workers.items i w low ∙ ap Some (sym c.index_mut.ensures.value)

-- it has its place
place_at : (g : Over) (c : goal.After-new g)
    → IsOf c.args.plan.now.search.question c.args.plan.now.search.index c.args.plan.now.queues c.loop-i.i c.index_mut.result.now
place_at g c = c.loop-i.invariant.hired.places c.loop-i.i c.index_mut.result.now (worker_at g c)

pub take_passes-requires : goal.take_passes-requires
take_passes-requires g c = record {
  some = λ place row at.
      let was = c.loop-i.invariant in
      let left : ℕ = vec_len c.args.workers.now - c.loop-i.i in
      let are = was.left left (omega (arith, c.loop-i-test.true, c.len-i-end.ensures, was.len)) in
      let low = slice_get_within c.loop-i.rows.items place row at in
      let word = get_some c.args.words.now place (omega (arith, low, are.count)) in
      let long = (are.each place word.0 row word.1 at).0 in
      omega (arith, long, row.ok.0, c.loop-i-test.true, c.len-i-end.ensures, was.len);
}

pub share-requires-clause-opens : goal.share-requires-clause-opens
share-requires-clause-opens g c =
    let w : Working = c.index_mut.result.now in
    let place = place_at g c in
    let same = search_at c.args.plan.now.search.question c.args.plan.now.search.index c.args.plan.now.queues c.loop-i.i w place in
    subst (λ (n : ℕ). Shows w (opens_as (search_of w 1) n)) (sym place.number)
    (subst (λ (s : Ground). Shows w (opens_as s c.loop-i.i)) (sym same) (c.loop-i.invariant.hired.opens c.loop-i.i w (worker_at g c)))

pub share-requires-clause-limits : goal.share-requires-clause-limits
share-requires-clause-limits g c =
    let a = c.args.plan.now in
    let i = c.loop-i.i in
    let g0 = search_over a.search.question a.search.index 1 a.queues in
    let left : ℕ = vec_len c.args.workers.now - i - 1 in
    let are = c.loop-i.invariant.left (suc left) (omega (arith, c.loop-i-test.true, c.len-i-end.ensures, c.loop-i.invariant.len)) in
    subst (λ (s : Ground). AreLimits s c.new.result)
    (sym (search_at a.search.question a.search.index a.queues i c.index_mut.result.now (place_at g c)))
    (subst (AreLimits g0) (sym c.new.ensures)
    (limits_dealt g0 c.args.words.now c.in_ok-passes.passes.items i c.requires.queues.0 (omega (arith, c.if-words-plan.false))
    (c.in_ok-passes.ensures.dealt g0 c.args.words.now left are).0))

pub share-requires-clause-home : goal.share-requires-clause-home
share-requires-clause-home g c =
    let w : Working = c.index_mut.result.now in
    let place = place_at g c in (
      ap (λ (l : Limited). l.home) c.new.ensures ∙ ap (λ (n : ℕ). n % c.args.plan.now.queues) (sym place.number)
          ∙ ap (λ (q : ℕ). w.number % q) (sym place.queues),
      ap (λ (l : Limited). l.at_home) c.new.ensures,
    )

pub loop-i-preserved : goal.loop-i-preserved
loop-i-preserved g c =
    let was = c.loop-i.invariant in
    let a = c.args.plan.now in
    let g0 = search_over a.search.question a.search.index 1 a.queues in
    record {
      hired = hired_shared a.search.question a.search.index a.queues c.loop-i.workers.items c.loop-i.i c.index_mut.result.now _
          was.hired
          (slice_get-get_or c.loop-i.workers.items c.loop-i.i c.index_mut.result.now
          (omega (arith, c.loop-i-test.true, c.len-i-end.ensures, was.len, c.loop-i.workers.ok.0)) ∙ ap Some (sym c.index_mut.ensures.value))
          c.share.ensures.shares;
      len = was.len;
      left = λ n all.
          (c.in_ok-passes.ensures.dealt g0 c.args.words.now n (was.left (suc n) (omega (arith, all)))).1;
    }
