-- One value more.
use Rattle.std.proofs.Common.{◌∙◌, arith, rules, get_or, pos, to_z, of_z}
use Rattle.std.specs.Prelude.{FitsSigned}
use Rattle.std.proofs.lemmas.Int.{to_z-of_z}
use Rattle.std.proofs.lemmas.List.{length-set}
use mir.Syntax.{w16}
use Rattle.row_codes.proofs.Coded.{code_more}
use Rattle.row_codes.proofs.view.filled.Goals as goal

pub loop-i-preserved : goal.loop-i-preserved
loop-i-preserved c =
    let x = get_or c.args.values.now c.loop-i.i (pos 0) in
    let y = to_z w16 (of_z w16 x) in
    let fits : FitsSigned w16 x = search rules in
    record {
      long = length-set c.loop-i.all c.loop-i.i y ∙ c.loop-i.invariant.long;
      value = code_more (λ z. z) c.args.values.now c.loop-i.all c.loop-i.i y (pos 0) (pos 0) c.loop-i-test.true
          (omega (arith, c.requires, c.loop-i-test.true)) c.loop-i.invariant.value (to_z-of_z w16 x fits);
    }
