-- The squares do not wrap.
use Rattle.simd_distance.proofs.Squares.{squares_are}
use Rattle.simd_distance.proofs.far.squares.Goals as goal

pub returns : goal.returns
returns c = squares_are c.args.numbers c.requires
