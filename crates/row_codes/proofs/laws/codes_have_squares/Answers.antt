-- The law, at the row.
use Rattle.row_codes.proofs.Below.{have_squares}
use Rattle.row_codes.proofs.laws.codes_have_squares.Goals as goal

pub returns : goal.returns
returns c = have_squares c.args.row.now
