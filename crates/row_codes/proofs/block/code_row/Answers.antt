-- One block more.
use Rattle.std.proofs.Common.{◌∙◌, ◌+◌, ◌*◌, ◌<◌, ap, arith, length, drop}
use Rattle.std.proofs.lemmas.List.{length-take}
use Rattle.row_codes.specs.Rows.{block_count, block_of, forgotten}
use Rattle.row_codes.proofs.Blocks.{blocks_more, cut_out}
use Rattle.row_codes.proofs.block.code_row.Goals as goal

pub loop-k-preserved : goal.loop-k-preserved
loop-k-preserved c =
    let row = c.args.row.now in
    let k = c.loop-k.k in
    let cut = cut_out row (256 * k) c.min-to.result c.min-to.ensures in
    let inside : k < length c.loop-k.codes = omega (arith, c.loop-k.auto.codes, c.loop-k-test.true) in
    let left : k < block_count (length row) = omega (arith, c.loop-k-test.true, c.requires.places) in
    let few = length-take 256 (drop (256 * k) row) in
    record {
      whole = blocks_more row c.loop-k.codes k (block_count (length row)) c.loop-k.before c.of-block.result.1 c.of-block.result.0
          inside left c.loop-k.invariant.whole
          (c.of-block.ensures.block ∙ ap (block_of c.loop-k.before) cut)
          (c.of-block.ensures.forgotten ∙ ap (λ xs. c.loop-k.before + forgotten xs) cut);
      small = omega (arith, c.of-block.ensures.small, c.loop-k.invariant.small, ap length cut, few);
    }
