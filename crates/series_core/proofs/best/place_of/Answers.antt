use Rattle.std.proofs.Common.{arith, ◌∙◌, sym, ◌<◌, ◌+◌, ◌-◌, ◌/◌, length}
use Rattle.series_core.proofs.Room.{smaller_to, not_smaller_from}
use Rattle.series_core.proofs.best.place_of.Goals as goal

pub loop-low-preserved-then-is_before : goal.loop-low-preserved-then-is_before
loop-low-preserved-then-is_before c =
    let h : c.loop-low.low + (c.loop-low.high - c.loop-low.low) / 2 < length c.args.pairs.now = omega arith in
    record {
      ordered = omega arith;
      within = c.loop-low.invariant.within;
      smaller = smaller_to c.args.pair _ c.args.pairs.now _ c.requires h (sym c.is_before.ensures ∙ c.if-is_before.true);
      others = c.loop-low.invariant.others;
    }

pub loop-low-preserved : goal.loop-low-preserved
loop-low-preserved c =
    let h : c.loop-low.low + (c.loop-low.high - c.loop-low.low) / 2 < length c.args.pairs.now = omega arith in
    record {
      ordered = omega arith;
      within = omega arith;
      smaller = c.loop-low.invariant.smaller;
      others = not_smaller_from c.args.pair _ c.args.pairs.now _ c.requires h (sym c.is_before.ensures ∙ c.if-is_before.false);
    }
