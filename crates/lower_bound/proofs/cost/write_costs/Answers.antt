-- The loop writes the cost of each symbol at its place.
use Rattle.std.proofs.Common.{◌≢◌, ◌<◌, ◌∙◌, arith, subst, length, get_or-set_other, get_or-set_same, below_more, to_z, of_z}
use Rattle.std.specs.Int.{w32}
use Rattle.std.proofs.lemmas.Int.{to_z-of_z}
use Rattle.std.proofs.lemmas.List.{length-set}
use Rattle.lower_bound.specs.Gap.{HoldsCosts}
use Rattle.lower_bound.proofs.cost.write_costs.Goals as goal

pub loop-symbol-preserved : goal.loop-symbol-preserved
loop-symbol-preserved c =
    let inside : c.loop-symbol.symbol < length c.loop-symbol.costs
    = omega (arith, c.loop-symbol.invariant.whole) in
    record {
      whole = length-set _ _ _ ∙ c.loop-symbol.invariant.whole;
      each = below_more _ _
          (λ s before. let other : s ≢ c.loop-symbol.symbol = omega arith in
          rw get_or-set_other (c.loop-symbol.invariant.each s before))
          (rw get_or-set_same c.cost_of_symbol.ensures);
    }

pub returns : goal.returns
returns c =
    let held : HoldsCosts c.args.table c.args.length
    (to_z w32 (of_z w32 c.args.sum)) c.loop-symbol.costs
    = record {
      whole = c.loop-symbol.invariant.whole;
      each = λ s inside. c.loop-symbol.invariant.each s (omega arith);
    } in
    subst (λ z. HoldsCosts c.args.table c.args.length z c.loop-symbol.costs)
    (to_z-of_z w32 c.args.sum c.ranges.sum) held
