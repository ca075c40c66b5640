-- Up to one block more the row is not too far.
use Rattle.std.proofs.Common.{◌∙◌, ◌+◌, ap, sym, arith, leb, length}
use Rattle.std.proofs.lemmas.Bool.{leb-true}
use Rattle.row_codes.specs.Rows.{Block}
use Rattle.row_codes.specs.Bound.{bound_at}
use Rattle.row_codes.proofs.Views.{squares_left, within_more}
use Rattle.row_codes.proofs.view.CodeView.are_within.Goals as goal

pub loop-k-preserved : goal.loop-k-preserved
loop-k-preserved c =
    let query = c.args.self.now in
    let k = c.loop-k.k in
    let b = c.index-codes-k.result in
    let far = c.far_from-squared.result in
    let limit = c.args.limit.now in
    let near = ap (λ (x : Block). leb (bound_at (c.loop-k.squared + far) x.rest) limit) (sym c.code.view_is)
    ∙ sym c.if-not-allows.ensures in
    record {
      small = omega (arith, c.loop-k.invariant.small, c.far_from-squared.ensures.small);
      left = c.loop-k.invariant.left
          ∙ within_more query c.args.codes.now limit c.loop-k.squared k far b c.loop-k-test.true c.index-codes-k.is c.far_from-squared.ensures.value
          (leb-true (bound_at (c.loop-k.squared + far) b.rest) limit near);
      squares = squares_left (length query) k c.args.codes.now b c.loop-k-test.true c.loop-k.invariant.squares;
    }
