-- What is near is left, and the list is empty.
use Rattle.std.proofs.Common.{[], ap, length, sym, subst, ◌∙◌, arith}
use Rattle.series_core.specs.Best.{Best}
use Rattle.nearest_answer.specs.Begun.{AreLeft}
use Rattle.search_task.specs.Questions.{ground_of}
use Rattle.nearest_answer.proofs.LeavesLeft.{all_left}
use Rattle.nearest_answer.proofs.by_leaves.all_near.Goals as goal

pub returns : goal.returns
returns g c =
    let ground = ground_of c.args.search.now in
    let left = c.in_ok-left.left.items in
    let none = c.in_ok-list.ensures in
    record {
      limit = c.requires.limit;
      list = (ap (λ (b : Best). b.k) none ∙ c.k.ensures.k, omega (arith, ap (λ (b : Best). length b.pairs) none));
      left = (
        [],
        subst (λ (b : Best). AreLeft ground c.args.limit [] b.pairs left) (sym none)
            (all_left ground c.args.limit left c.in_ok-left.ensures),
      );
    }
