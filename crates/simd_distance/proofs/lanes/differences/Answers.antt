-- Greater less lesser is the difference.
use Rattle.simd_distance.proofs.Differences.{differences_are}
use Rattle.simd_distance.proofs.lanes.differences.Goals as goal

pub returns : goal.returns
returns c = differences_are c.args.x c.args.q c.requires.x_fits c.requires.q_fits
