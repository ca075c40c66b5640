-- The halves are those of numbers of 16 bits, and their squares do not wrap.
use Rattle.std.proofs.Common.{refl}
use Rattle.simd_distance.proofs.Halves.{half_squares_are}
use Rattle.simd_distance.proofs.low.squares_of_halves.Goals as goal

pub returns : goal.returns
returns c = half_squares_are _ (λ n. refl) c.args.numbers 16 c.requires.lanes c.requires.small
