use Rattle.std.proofs.Common.{◌≡◌, length}
use Rattle.block_list.specs.Blocks.{has_some, Tells}
use Rattle.block_list.proofs.row.free.Given as goal

abbrev pub invariant-loop-more : goal.invariant-loop-more
invariant-loop-more g l = (l.more ≡ has_some l.nodes.items) × Tells l.nodes.items

abbrev pub decreases-loop-more : goal.decreases-loop-more
decreases-loop-more g l = length l.nodes.items
