-- The law, at both series.
use Rattle.row_codes.proofs.Below.{bound_below}
use Rattle.row_codes.proofs.laws.code_bound_is_below_distance.Goals as goal

pub returns : goal.returns
returns c = bound_below c.args.row.now c.args.query.now c.requires
