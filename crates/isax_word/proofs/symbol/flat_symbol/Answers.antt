-- The quotient is the symbol, which is below 256.
use Rattle.std.proofs.Common.{◌≡◌, ◌*◌, pos, ◌+ℤ◌, arith, sym}
use Rattle.std.proofs.lemmas.Int.{ints}
use Rattle.isax_word.proofs.Symbols.{flat_symbol_is}
use Rattle.isax_word.proofs.symbol.flat_symbol.Goals as goal

pub overflow_cast-result : goal.overflow_cast-result
overflow_cast-result c =
    let above : pos c.above_least.result ≡ c.args.sum +ℤ pos (32768 * c.args.length)
    = omega (arith, ints, c.above_least.ensures.value) in
    omega (
      arith,
      (flat_symbol_is c.args.length c.args.sum c.above_least.result c.requires.some_values
          above c.above_least.ensures.bound).0,
    )

pub returns : goal.returns
returns c =
    let above : pos c.above_least.result ≡ c.args.sum +ℤ pos (32768 * c.args.length)
    = omega (arith, ints, c.above_least.ensures.value) in
    sym (flat_symbol_is c.args.length c.args.sum c.above_least.result c.requires.some_values
    above c.above_least.ensures.bound).1
