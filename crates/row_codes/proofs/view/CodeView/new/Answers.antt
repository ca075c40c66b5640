-- The sums of one block more.
use Rattle.std.proofs.Common.{◌∙◌, ◌*◌, arith}
use Rattle.std.proofs.lemmas.List.{length-set}
use Rattle.row_codes.specs.Codes.{value_squares}
use Rattle.row_codes.specs.Kept.{sums_at, value_total}
use Rattle.row_codes.proofs.Blocks.{cut_out}
use Rattle.row_codes.proofs.Packed.{front_more}
use Rattle.row_codes.proofs.view.CodeView.new.Goals as goal

pub loop-k-preserved : goal.loop-k-preserved
loop-k-preserved c =
    let query = c.args.query.now in
    let k = c.loop-k.k in
    let long = c.loop-k.invariant.long in
    let cut = cut_out query (256 * k) c.min-to.result c.min-to.ensures in
    record {
      long = length-set c.loop-k.sums k c.of.result ∙ long;
      front = front_more (sums_at query) c.loop-k.sums k c.of.result (omega (arith, long, c.loop-k-test.true, c.requires))
          c.loop-k.invariant.front
          (c.of.ensures ∙ (λ i. record { total = value_total (cut i); squares = value_squares (cut i) }));
    }
