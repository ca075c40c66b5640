-- What the comparison selects is the lesser.
use Rattle.mean_bound.proofs.Lanes.{lesser_are}
use Rattle.mean_bound.proofs.gaps.lesser.Goals as goal

pub returns : goal.returns
returns c = lesser_are c.args.a c.args.b
