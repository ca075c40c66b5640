-- The product takes 49 bits.
use Rattle.std.proofs.Common.{◌∙◌, ap, arith}
use Rattle.std.specs.Prelude.{unsigned_abs}
use Rattle.row_codes.proofs.Totals.{product_passed}
use Rattle.row_codes.proofs.sums.times.Goals as goal

pub returns : goal.returns
returns c =
    let told = product_passed c.args.number c.from.result c.from-2.result c.args.sum c.requires c.ranges.sum c.from.ensures c.from-2.ensures in
    record {
      value = told.0;
      small = omega (arith, ap unsigned_abs told.0 ∙ told.1);
    }
