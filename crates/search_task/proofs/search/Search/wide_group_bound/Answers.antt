-- The bound of the box of 256 leaves in a row is at most the distance of each of their members.
use Rattle.std.proofs.Common.{Bor, ap, sym, ◌∙◌, arith}
use Rattle.std.specs.Prelude.{Option, option_copied}
use Rattle.mean_bound.specs.Boxes.{Box}
use Rattle.search_task.proofs.BelowMeans.{group_bounded}
use Rattle.search_task.proofs.search.Search.wide_group_bound.Goals as goal

pub returns-in-Some : goal.returns-in-Some
returns-in-Some g c =
    group_bounded _ c.args.self.now 256 c.args.group c.bound_box.result c.means.result.now c.in-Some.shared.now c.self.view_is
    c.self.invariant c.bound_box.ensures.value c.means.ensures.means
    (ap (λ (o : Option (Bor Box)). option_copied o) (sym c.in-Some.is) ∙ c.wide_group_box.ensures)

pub returns-in-None : goal.returns-in-None
returns-in-None g c = λ l from to real s member. omega arith
