-- One code more: the value lies between the least and the greatest, which 16 steps reach.
use Rattle.std.proofs.Common.{◌≡◌, ◌∙◌, ◌-◌, ◌*◌, ◌/◌, ◌<◌, ◌≤◌, ap, arith, rules, get_or, pos}
use Rattle.std.specs.Prelude.{FitsSigned}
use Rattle.std.proofs.lemmas.Int.{to_z-of_z}
use Rattle.std.proofs.lemmas.List.{length-set}
use Rattle.std.proofs.lemmas.List.Elements.{All-set}
use mir.Syntax.{w16}
use Rattle.row_codes.specs.Codes.{code_of, raised}
use Rattle.row_codes.proofs.Coded.{between, code_more}
use Rattle.row_codes.proofs.OfBlocks.{step_reaches}
use Rattle.row_codes.proofs.coding.codes_of.Goals as goal
use Rattle.row_codes.proofs.coding.codes_of.Goals.{After-raised}

-- what was raised is the value, and lies between the least and the greatest
raised_is : (c : After-raised)
    → (c.raised.result ≡ raised (get_or c.args.values.now c.loop-i.i (pos 0))) × (c.args.low ≤ c.raised.result)
    × (c.raised.result - c.args.low < 16 * c.args.step)
raised_is c =
    let xs = c.args.values.now in
    let x = get_or xs c.loop-i.i (pos 0) in
    let fits : FitsSigned w16 x = search rules in
    let own : c.raised.result ≡ raised x = c.raised.ensures ∙ ap raised (to_z-of_z w16 x fits) in
    let both = between xs c.loop-i.i (pos 0) c.loop-i-test.true in (
      own,
      omega (arith, own, both.0, c.requires.low),
      omega (arith, own, both.1, both.0, c.requires.low, c.requires.step, step_reaches xs),
    )

pub overflow_sub-raised : goal.overflow_sub-raised
overflow_sub-raised c = (raised_is c).1

pub code_of-requires-clause-near : goal.code_of-requires-clause-near
code_of-requires-clause-near c = omega (arith, (raised_is c).2, c.from-step.ensures)

pub loop-i-preserved : goal.loop-i-preserved
loop-i-preserved c =
    let x = get_or c.args.values.now c.loop-i.i (pos 0) in
    let is : c.code_of.result ≡ code_of c.args.low c.from-step.result x
    = c.code_of.ensures.value ∙ ap (λ n. (n - c.args.low) / c.from-step.result) (raised_is c.before).0 in
    record {
      long = length-set c.loop-i.codes c.loop-i.i c.code_of.result ∙ c.loop-i.invariant.long;
      value = code_more (code_of c.args.low c.from-step.result) c.args.values.now c.loop-i.codes c.loop-i.i c.code_of.result 0 (pos 0)
          c.loop-i-test.true (omega (arith, c.requires.few, c.loop-i-test.true)) c.loop-i.invariant.value is;
      small = All-set (λ n. n < 16) c.loop-i.codes c.loop-i.i c.code_of.result c.code_of.ensures.small c.loop-i.invariant.small;
    }
