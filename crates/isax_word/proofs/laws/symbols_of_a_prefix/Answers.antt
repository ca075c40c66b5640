-- A part contains the symbols whose first bits it has.
use Rattle.isax_word.proofs.Words.{symbols_of_part}
use Rattle.isax_word.proofs.laws.symbols_of_a_prefix.Goals as goal

pub returns-clause-at_least : goal.returns-clause-at_least
returns-clause-at_least c = (symbols_of_part c.args.part c.args.symbol c.requires).0

pub returns-clause-below : goal.returns-clause-below
returns-clause-below c = (symbols_of_part c.args.part c.args.symbol c.requires).1
