-- One value more, which lies at most half a step from what its code stands for.
use Rattle.std.proofs.Common.{◌≡◌, ◌∙◌, ◌*◌, ◌≤◌, ◌<◌, ap, arith, get_or, length, map, pos, rules, subst, sym, to_z, of_z}
use Rattle.std.specs.Prelude.{FitsSigned, unsigned_abs, ◌-ℤ◌}
use Rattle.std.proofs.lemmas.Int.{ints, to_z-of_z}
use Rattle.std.proofs.lemmas.Nat.{mul-le}
use Rattle.std.proofs.lemmas.List.{get_or-map, length-map}
use mir.Syntax.{w16, w32}
use Rattle.row_codes.specs.Codes.{code_of, picture_of, pictured}
use Rattle.row_codes.proofs.Coded.{between}
use Rattle.row_codes.proofs.Forgotten.{forgotten_more, left_small}
use Rattle.row_codes.proofs.coding.forgotten_of.Goals as goal
use Rattle.row_codes.proofs.coding.forgotten_of.Goals.{After-square_of-lost}

-- the square that is added
added : (c : After-square_of-lost)
    → (c.square_of-lost.result
    ≡ unsigned_abs (get_or c.args.values.now c.loop-i.i (pos 0) -ℤ get_or (pictured c.args.low c.args.step c.args.codes.now) c.loop-i.i (pos 0))
    * unsigned_abs (get_or c.args.values.now c.loop-i.i (pos 0) -ℤ get_or (pictured c.args.low c.args.step c.args.codes.now) c.loop-i.i (pos 0)))
    × (c.square_of-lost.result ≤ 4194304) × (c.loop-i.i < length (pictured c.args.low c.args.step c.args.codes.now))
added c =
    let f = picture_of c.args.low c.args.step in
    let g = code_of c.args.low c.args.step in
    let xs = c.args.values.now in
    let cs = c.args.codes.now in
    let i = c.loop-i.i in
    let x = get_or xs i (pos 0) in
    let p = get_or (pictured c.args.low c.args.step cs) i (pos 0) in
    let fits : FitsSigned w16 x = search rules in
    let codes : cs ≡ map g xs = c.requires.codes ∙ (λ j. map (code_of (sym c.requires.low j) (sym c.requires.step j)) xs) in
    let many : length cs ≡ length xs = ap length codes ∙ length-map xs g in
    let inside : i < length cs = omega (arith, many, c.loop-i-test.true) in
    let there : i < length (pictured c.args.low c.args.step cs) = omega (arith, length-map cs f, inside) in
    let shown : p ≡ f (get_or cs i 0) = get_or-map f cs i 0 (pos 0) inside in
    let code : get_or cs i 0 ≡ g x = ap (λ l. get_or l i 0) codes ∙ get_or-map g xs i (pos 0) 0 c.loop-i-test.true in
    let least = (between xs i (pos 0) c.loop-i-test.true).0 in
    let near : unsigned_abs (x -ℤ p) ≤ 2048
    = subst (λ z. unsigned_abs (x -ℤ z) ≤ 2048) (sym (shown ∙ ap f code))
    (left_small c.args.low c.args.step x (omega (arith, c.requires.step)) c.requires.limit (omega (arith, c.requires.low, least)) fits) in
    let value : c.from.result ≡ x = c.from.ensures ∙ to_z-of_z w16 x fits in
    let picture : c.picture.result ≡ p = c.picture.ensures.value ∙ sym shown in
    let passed : to_z w32 (of_z w32 (to_z w32 (of_z w32 c.from.result) -ℤ to_z w32 (of_z w32 c.picture.result))) ≡ x -ℤ p
    = omega (arith, ints, value, picture, fits, c.picture.ensures.small) in
    let square = c.square_of-lost.ensures ∙ ap (λ z. unsigned_abs z * unsigned_abs z) passed in
    let less = mul-le (unsigned_abs (x -ℤ p)) (unsigned_abs (x -ℤ p)) 2048 2048 near near in
    (square, omega (arith, square, less), there)

pub overflow_add-lost : goal.overflow_add-lost
overflow_add-lost c =
    record { fits = omega (arith, (added c).1, c.loop-i.invariant.small, c.loop-i-test.true, c.requires.few) }

pub loop-i-preserved : goal.loop-i-preserved
loop-i-preserved c =
    let more = forgotten_more c.args.values.now (pictured c.args.low c.args.step c.args.codes.now) c.loop-i.i (pos 0) (pos 0)
    c.loop-i-test.true (added c).2 in
    record {
      value = omega (arith, more, (added c).0, c.loop-i.invariant.value);
      small = omega (arith, (added c).1, c.loop-i.invariant.small);
    }
