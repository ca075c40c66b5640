-- The lanes that are picked are all lanes, each of them once.
use Rattle.simd_distance.proofs.Squares.{sums_of_sixteen}
use Rattle.simd_distance.proofs.near.sums_of_four.Goals as goal

pub returns : goal.returns
returns c = sums_of_sixteen c.args.squares c.requires.lanes
