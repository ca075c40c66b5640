-- A child's word lacks a bit less.
use Rattle.std.proofs.Common.{◌+◌, ◌*◌}
use Rattle.subtree_build.specs.Division.{bits_left}
use Rattle.saved_index.proofs.node.+read_node.Given as goal

abbrev pub decreases-read_node : goal.decreases-read_node
decreases-read_node l = 2 * bits_left l.word.now

abbrev pub decreases-read_child : goal.decreases-read_child
decreases-read_child l = 2 * bits_left l.word.now + 1
