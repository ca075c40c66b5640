-- A member whose bound by its means is above the radius is not near.
use Rattle.std.proofs.Common.{sym, ap, arith}
use Rattle.mean_bound.specs.MeanBound.{View, mean_bound}
use Rattle.range_query.proofs.Cutting.{far_member}
use Rattle.range_query.proofs.walk.RadiusSearch.near.Goals as goal

pub returns-then-bound-self : goal.returns-then-bound-self
returns-then-bound-self g c =
    let means = c.args.means.now in
    let bound = ap (λ (v : View). mean_bound v means) c.requires.ready.1 in
    sym (far_member _ _ _ c.requires.ready.0 c.args.member.now.number means c.requires.number c.requires.means
    (omega (arith, bound, c.bound.ensures.value, c.if-bound-self.true)))
