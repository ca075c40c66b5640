-- What the comparison selects is the greater.
use Rattle.mean_bound.proofs.Lanes.{greater_are}
use Rattle.mean_bound.proofs.gaps.greater.Goals as goal

pub returns : goal.returns
returns c = greater_are c.args.a c.args.b
