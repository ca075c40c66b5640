-- No limit falls below the last distance where it is that of the list's k-th pair, and what lies beyond it is too far.
use Rattle.std.proofs.Common.{◌≤◌, ◌-◌, ap, sym, subst, arith}
use Rattle.series_core.specs.Order.{distance_at}
use Rattle.search_machine.specs.Ground.{last, worst}
use Rattle.nearest_answer.specs.Begun.{AreLeft}
use Rattle.search_task.specs.Questions.{ground_of}
use Rattle.search_task.proofs.Grounds.{ground_fits, ground_last}
use Rattle.nearest_answer.proofs.LeavesLeft.{left_within}
use Rattle.nearest_answer.proofs.Nearest.{worst_enough}
use Rattle.nearest_answer.proofs.by_leaves.narrowed.Goals as goal

pub returns : goal.returns
returns g c =
    let s = c.args.search.now in
    let ground = ground_of s in
    let was = c.requires.left in
    let ps = c.args.list.pairs in
    let v = c.args.limit in
    let closer = c.min-closer.result in
    let least : last ground ≤ worst ground ps
    = worst_enough ground (ground_fits s c.k-k.ensures.searched) was.left.0 ps was.left.1.sound in
    let kth = ap (λ n. distance_at (n - 1) ps) was.list.0 in
    let less : closer ≤ v = omega (arith, c.min-closer.ensures) in
    record {
      limit = omega (arith, least, kth, c.distance_of_worst.ensures, c.min-closer.ensures, ground_last s c.k-k.ensures.searched, was.limit);
      list = was.list;
      left = (
        was.left.0,
        subst (AreLeft ground closer was.left.0 ps) (sym c.in_ok-within.ensures)
            (left_within ground v closer was.left.0 ps c.args.left.now less was.left.1),
      );
    }
