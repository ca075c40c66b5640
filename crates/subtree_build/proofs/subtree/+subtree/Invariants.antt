-- A child's word lacks a bit less.
use Rattle.std.proofs.Common.{◌+◌, ◌*◌}
use Rattle.subtree_build.specs.Division.{bits_left}
use Rattle.subtree_build.proofs.subtree.+subtree.Given as goal

abbrev pub decreases-subtree : goal.decreases-subtree
decreases-subtree l = 2 * bits_left l.word.now

abbrev pub decreases-child_node : goal.decreases-child_node
decreases-child_node l = 2 * bits_left l.word.now + 1
