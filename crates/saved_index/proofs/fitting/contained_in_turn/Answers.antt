-- The full words of a leaf's members can be compared with its word.
use Rattle.std.proofs.Common.{arith}
use Rattle.saved_index.proofs.Contained.{as_many_parts}
use Rattle.saved_index.proofs.fitting.contained_in_turn.Goals as goal

pub contains_members-requires : goal.contains_members-requires
contains_members-requires c =
    as_many_parts c.args.index.now c.loop-l.l c.leaf_word.result.now c.leaf_members.result.now c.leaf_count-leaves.ensures.is_index
    c.requires.segments (omega arith) c.leaf_word.ensures c.leaf_members.ensures
