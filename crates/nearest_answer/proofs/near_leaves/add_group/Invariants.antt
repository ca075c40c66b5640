-- The leaves before this one were looked at.
use Rattle.std.proofs.Common.{◌*◌}
use Rattle.nearest_answer.specs.NearLeaves.{AreNearBelow}
use Rattle.search_task.specs.Questions.{ground_of}
use Rattle.nearest_answer.proofs.near_leaves.add_group.Given as goal

abbrev pub invariant-loop-leaf : goal.invariant-loop-leaf
invariant-loop-leaf g l =
    AreNearBelow (ground_of l.fn.search) l.fn.limit (l.fn.group * 16) l.fn.entries.items
    → AreNearBelow (ground_of l.fn.search) l.fn.limit l.leaf l.entries.items
