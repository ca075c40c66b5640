-- One more worker is hired, over the question and the index that the search lends.
use Rattle.std.proofs.Common.{arith, length, subst, sym, ◌≡◌}
use Rattle.search_task.specs.Questions.{search_over}
use Rattle.search_task.proofs.Searching.{lent_same}
use Rattle.query_core.specs.Teams.{AreAlone, AreHired}
use Rattle.query_core.specs.Working.{IsOf, Shows, opens_as}
use Rattle.query_core.proofs.TeamOpening.{alone_more, hired_more}
use Rattle.query_core.proofs.opening.hire.Goals as goal

pub loop-number-preserved : goal.loop-number-preserved
loop-number-preserved g c =
    let was = c.loop-number.invariant in
    let s = c.args.search.now in
    let queues = c.args.queues in
    let number = c.loop-number.number in
    let worker = c.in_ok-new-2.field-0 in
    let asked = c.task-task.ensures.task in
    let lent = c.index-index.ensures.index in
    let many : length c.loop-number.hired.items ≡ number = omega (arith, c.loop-number.hired.ok.0) in
    record {
      some = omega arith;
      len = omega arith;
      room = omega (arith, c.push_reserved-in-loop-number.ensures.capacity);
      hired = subst (AreHired s.question s.index queues) (sym c.push_reserved-in-loop-number.ensures.items)
          (hired_more s.question s.index queues c.loop-number.hired.items worker number was.hired many
          (lent_same s _ _ (λ a ix. IsOf a ix queues number worker) asked lent c.in_ok-new-2.ensures.place)
          (lent_same s _ _ (λ a ix. Shows worker (opens_as (search_over a ix 1 queues) number)) asked lent
          c.in_ok-new-2.ensures.opens));
      alone = subst AreAlone (sym c.push_reserved-in-loop-number.ensures.items)
          (alone_more c.loop-number.hired.items worker was.alone c.in_ok-new-2.ensures.alone);
    }
