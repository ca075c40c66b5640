-- One code more.
use Rattle.std.proofs.Common.{◌≡◌, ◌∙◌, ◌*◌, ◌≤◌, ◌<◌, ap, arith, get_or, length, pos, subst, sym, to_z, of_z}
use Rattle.std.specs.Prelude.{unsigned_abs}
use Rattle.std.proofs.lemmas.Int.{ints}
use Rattle.std.proofs.lemmas.Nat.{mul-le}
use Rattle.std.proofs.lemmas.List.{get_or-map, length-map}
use mir.Syntax.{w32}
use Rattle.row_codes.specs.Codes.{picture_of, pictured}
use Rattle.row_codes.proofs.Totals.{squares_more}
use Rattle.row_codes.proofs.coding.squares_of.Goals as goal

pub loop-i-preserved : goal.loop-i-preserved
loop-i-preserved c =
    let f = picture_of c.args.low c.args.step in
    let cs = c.args.codes.now in
    let i = c.loop-i.i in
    let p = c.picture.result in
    let shown : get_or (pictured c.args.low c.args.step cs) i (pos 0) ≡ f (get_or cs i 0)
    = get_or-map f cs i 0 (pos 0) c.loop-i-test.true in
    let own : p ≡ get_or (pictured c.args.low c.args.step cs) i (pos 0) = c.picture.ensures.value ∙ sym shown in
    let inside : i < length (pictured c.args.low c.args.step cs) = omega (arith, length-map cs f, c.loop-i-test.true) in
    let passed : to_z w32 (of_z w32 p) ≡ p = omega (arith, ints, c.picture.ensures.small) in
    let square_is = c.square_of-square.ensures ∙ ap (λ z. unsigned_abs z * unsigned_abs z) (passed ∙ own) in
    let near : unsigned_abs (get_or (pictured c.args.low c.args.step cs) i (pos 0)) ≤ 34830
    = subst (λ z. unsigned_abs z ≤ 34830) own c.picture.ensures.small in
    let less = mul-le _ _ 34830 34830 near near in
    record {
      squares = omega (arith, square_is, c.loop-i.invariant.squares, squares_more (pictured c.args.low c.args.step cs) i (pos 0) inside);
      half = omega (arith, c.loop-i.invariant.half);
      few = omega (arith, c.loop-i.invariant.few, square_is, less);
    }
