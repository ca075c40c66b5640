use Rattle.std.proofs.Common.{rules, arith, ◌≡◌, get_or, take, subst, List}
use Rattle.std.specs.Prelude.{FitsSigned, ℤ, pos}
use Rattle.std.specs.List.{All}
use Rattle.std.proofs.lemmas.List.{take_all}
use Rattle.std.proofs.lemmas.List.Elements.{All-more}
use mir.Syntax.{w16}
use Rattle.series_core.proofs.ranges.values_fit.Goals as goal

pub loop-i-preserved : goal.loop-i-preserved
loop-i-preserved c =
    let fits : FitsSigned w16 (get_or c.args.values.now c.loop-i.i (pos 0)) = search rules in
    All-more (FitsSigned w16) c.args.values.now c.loop-i.i (pos 0) c.loop-i-test.true c.loop-i.invariant fits

pub returns : goal.returns
returns c =
    let whole : take c.loop-i.i c.args.values.now ≡ c.args.values.now = take_all c.loop-i.i c.args.values.now (omega arith) in
    subst (λ (xs : List ℤ). All (FitsSigned w16) xs) whole c.loop-i.invariant
