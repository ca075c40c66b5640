-- The symbol counts the breakpoints that are reached.
use Rattle.std.proofs.Common.{◌+◌, arith}
use Rattle.isax_word.specs.Symbol.{symbol_of}
use Rattle.isax_word.proofs.Symbols.{symbol-le, symbol_reached, symbol_unreached}
use Rattle.isax_word.proofs.laws.symbol_bracket.Goals as goal

pub returns-clause-last : goal.returns-clause-last
returns-clause-last c = symbol-le _ _ _

pub returns-clause-at_least : goal.returns-clause-at_least
returns-clause-at_least c =
    λ some.
    let symbol = symbol_of c.args.table c.args.length c.args.sum in
    symbol_reached c.args.table c.args.length c.args.sum symbol some (omega arith)

pub returns-clause-below : goal.returns-clause-below
returns-clause-below c =
    λ more.
    let symbol = symbol_of c.args.table c.args.length c.args.sum in
    symbol_unreached c.args.table c.args.length c.args.sum (symbol + 1) (omega arith) (omega arith)
