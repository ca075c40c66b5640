-- The parts so far, put together, and those that are left.
use Rattle.std.proofs.Common.{◌≡◌, ◌++◌, map}
use Rattle.std.specs.Vec.Iter.{into_iter_items}
use Rattle.subtree_build.specs.Outline.{outline}
use Rattle.subtree_build.specs.Parts.{joined_nodes, part_firsts}
use Rattle.subtree_build.proofs.Joining.{part_leaves, part_members}
use Rattle.subtree_build.proofs.part.join_parts.Given as goal

abbrev pub invariant-loop-part : goal.invariant-loop-part
invariant-loop-part l = record {
  nodes : map outline l.nodes.items ≡ joined_nodes 0 l.yielded;
  firsts : l.firsts.items ≡ part_firsts 0 l.yielded;
  leaves : l.leaves.items ≡ part_leaves l.yielded;
  members : l.members.items ≡ part_members l.yielded;
  whole : l.yielded ++ into_iter_items l.part-iterator ≡ l.fn.parts.items;
}
