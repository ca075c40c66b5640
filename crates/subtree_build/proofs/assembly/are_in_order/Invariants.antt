-- The nodes so far have the leaves up to the next number.
use Rattle.std.proofs.Common.{◌≤◌}
use Rattle.subtree_build.proofs.Numbering.{AreUpTo}
use Rattle.subtree_build.proofs.assembly.are_in_order.Given as goal

abbrev pub invariant-loop-node : goal.invariant-loop-node
invariant-loop-node l = AreUpTo l.nodes l.node-index l.next × (l.next ≤ l.leaves)
