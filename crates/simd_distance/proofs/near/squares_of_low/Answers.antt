-- The mask leaves the low bits, and their squares do not wrap.
use Rattle.simd_distance.proofs.Squares.{low_squares_are}
use Rattle.simd_distance.proofs.near.squares_of_low.Goals as goal

pub returns : goal.returns
returns c = low_squares_are c.args.numbers 16 c.requires
