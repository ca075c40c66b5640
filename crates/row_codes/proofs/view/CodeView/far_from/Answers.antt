-- The sum of products and the sums of the query say how far it lies from what the codes stand for.
use Rattle.std.proofs.Common.{subst, arith, pos, to_z, of_z}
use Rattle.std.specs.Prelude.{◌≤ℤ◌}
use Rattle.std.proofs.lemmas.Int.{ints, to_z-of_z}
use mir.Syntax.{w32}
use Rattle.row_codes.proofs.Views.{far_as_kept}
use Rattle.row_codes.proofs.view.CodeView.far_from.Goals as goal

pub distance-requires-clause-whole : goal.distance-requires-clause-whole
distance-requires-clause-whole c =
    let far = far_as_kept c.args.self.now c.self.inside.query.now c.self.inside.sums _ c.args.code.now c.args.k c.args.dot (to_z w32 (of_z w32 c.args.dot)) c.sums_of.result.now c.self.view_is c.code.view_is
    c.code.invariant.0 c.requires.inside c.sums_of.ensures c.self.invariant.summed c.requires.squares c.requires.dot.value
    (to_z-of_z w32 c.args.dot c.ranges.dot) in
    subst (λ z. pos 0 ≤ℤ z) far (omega (arith, ints))

pub returns-clause-value : goal.returns-clause-value
returns-clause-value c =
    let far = far_as_kept c.args.self.now c.self.inside.query.now c.self.inside.sums _ c.args.code.now c.args.k c.args.dot (to_z w32 (of_z w32 c.args.dot)) c.sums_of.result.now c.self.view_is c.code.view_is
    c.code.invariant.0 c.requires.inside c.sums_of.ensures c.self.invariant.summed c.requires.squares c.requires.dot.value
    (to_z-of_z w32 c.args.dot c.ranges.dot) in
    omega (arith, ints, far, c.distance.ensures.value)
