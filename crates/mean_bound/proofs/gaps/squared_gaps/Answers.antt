-- Sixteen squares of at most 16383 * 16383 add up in 32 bits.
use Rattle.std.proofs.Common.{arith, ap}
use Rattle.std.specs.Simd.Lanes.{sum_l}
use Rattle.mean_bound.proofs.Squares.{squares_small}
use Rattle.mean_bound.proofs.gaps.squared_gaps.Goals as goal

pub sum_of-requires : goal.sum_of-requires
sum_of-requires c =
    omega (arith, ap sum_l c.squares.ensures, squares_small 16383 c.gaps.result c.gaps.ensures.small)
