-- Up to the blocks so far the row is not too far, so what is left decides.
use Rattle.std.proofs.Common.{◌≡◌, ◌-◌, ◌*◌, ◌≤◌, leb, drop, length}
use Rattle.row_codes.specs.Bound.{HaveSquares, bound_from, code_bound}
use Rattle.row_codes.proofs.view.CodeView.are_within.Given as goal

abbrev pub invariant-loop-k : goal.invariant-loop-k
invariant-loop-k l = record {
  small : l.squared ≤ 8000000000000 * l.k;
  left : leb (code_bound l.self l.codes) l.limit ≡ leb (bound_from l.squared (drop (256 * l.k) l.self) (drop l.k l.codes)) l.limit;
  squares : HaveSquares (length l.self - 256 * l.k) (drop l.k l.codes);
}
