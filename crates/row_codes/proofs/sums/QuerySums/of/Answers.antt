-- One value more.
use Rattle.std.proofs.Common.{◌≡◌, ◌∙◌, ◌*◌, ◌≤◌, ap, arith, rules, get_or, pos, to_z, of_z}
use Rattle.std.specs.Prelude.{FitsSigned, unsigned_abs, ◌+ℤ◌}
use Rattle.std.proofs.lemmas.Nat.{mul-le}
use Rattle.std.proofs.lemmas.Int.{ints, to_z-of_z}
use mir.Syntax.{w16, w32}
use Rattle.row_codes.proofs.Totals.{squares_more, total_more}
use Rattle.row_codes.proofs.sums.QuerySums.of.Goals as goal

pub loop-i-preserved : goal.loop-i-preserved
loop-i-preserved c =
    let x = get_or c.args.values.now c.loop-i.i (pos 0) in
    let fits : FitsSigned w16 x = search rules in
    let own : c.from-value.result ≡ x = c.from-value.ensures ∙ to_z-of_z w16 x fits in
    let passed : to_z w32 (of_z w32 c.from-value.result) ≡ x = omega (arith, ints, own, fits) in
    let sum : to_z w32 (of_z w32 (to_z w32 c.loop-i.total-bits +ℤ to_z w32 (of_z w32 c.from-value.result)))
    ≡ to_z w32 c.loop-i.total-bits +ℤ x
    = omega (arith, ints, passed, fits, c.loop-i.invariant.short, c.loop-i.auto.i-end, c.requires) in
    let near : unsigned_abs x ≤ 32768 = omega (arith, ints, fits) in
    let square_is = c.square_of-square.ensures ∙ ap (λ z. unsigned_abs z * unsigned_abs z) passed in
    record {
      total = omega (arith, ints, sum, c.loop-i.invariant.total, total_more c.args.values.now c.loop-i.i (pos 0) c.loop-i-test.true);
      squares = omega (
        arith,
        square_is,
        c.loop-i.invariant.squares,
        squares_more c.args.values.now c.loop-i.i (pos 0) c.loop-i-test.true,
      );
      short = omega (arith, ints, sum, fits, c.loop-i.invariant.short);
      half = omega (arith, c.loop-i.invariant.half);
      few = omega (arith, c.loop-i.invariant.few, square_is, mul-le (unsigned_abs x) (unsigned_abs x) 32768 32768 near near);
    }
