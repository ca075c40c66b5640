-- A member whose means are above the limit is farther.
use Rattle.std.proofs.Common.{◌≡◌, ap, ◌∙◌, refl, arith}
use Rattle.mean_bound.specs.MeanBound.{View, mean_bound, mean_view_of}
use Rattle.subtree_build.specs.Means.{means_of}
use Rattle.search_task.proofs.BelowMeans.{means_are_below}
use Rattle.search_task.proofs.task.Task.may_be_within.Goals as goal

pub returns-else-bound-limit : goal.returns-else-bound-limit
returns-else-bound-limit g c above =
    let a = c.args.self.now in
    let m = c.args.member.now in
    let view = mean_view_of a.layout.cuts a.query in
    let bound : c.bound.result ≡ mean_bound view (means_of a.collection a.layout m) =
    c.bound.ensures.value
    ∙ ap (λ (v : View). mean_bound v c.args.means.now) c.means.ensures.means
    ∙ ap (mean_bound view) c.requires.means in
    let below = means_are_below a m.number c.means.ensures.question c.requires.member.series m refl in
    omega (arith, bound, below, c.if-bound-limit.false)
