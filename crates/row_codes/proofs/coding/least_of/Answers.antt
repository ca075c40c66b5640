-- One value more.
use Rattle.std.proofs.Common.{◌≡◌, ◌∙◌, arith, rules, get_or, pos, ap}
use Rattle.std.specs.Prelude.{FitsSigned}
use Rattle.std.proofs.lemmas.Int.{to_z-of_z}
use mir.Syntax.{w16}
use Rattle.row_codes.specs.Codes.{raised}
use Rattle.row_codes.proofs.Coded.{least_more}
use Rattle.row_codes.proofs.coding.least_of.Goals as goal

pub loop-i-preserved : goal.loop-i-preserved
loop-i-preserved c =
    let x = get_or c.args.values.now c.loop-i.i (pos 0) in
    let fits : FitsSigned w16 x = search rules in
    let own : c.raised.result ≡ raised x = c.raised.ensures ∙ ap raised (to_z-of_z w16 x fits) in
    omega (arith, least_more c.args.values.now c.loop-i.i (pos 0) c.loop-i-test.true, own, c.loop-i.invariant, c.min-low.ensures)
