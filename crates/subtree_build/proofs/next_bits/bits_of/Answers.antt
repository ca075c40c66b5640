-- What the comparison selects are the bits.
use Rattle.std.proofs.Common.{rules}
use Rattle.subtree_build.proofs.BitLanes.{bits_are}
use Rattle.subtree_build.proofs.next_bits.bits_of.Goals as goal

pub returns : goal.returns
returns c = bits_are c.args.symbols.now c.args.places.now 16 (search rules)
