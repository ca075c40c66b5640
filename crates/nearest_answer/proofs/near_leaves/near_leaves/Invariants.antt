-- The leaves of the wide groups so far were looked at, and of the groups so far of the next one.
use Rattle.std.proofs.Common.{◌*◌}
use Rattle.nearest_answer.specs.NearLeaves.{AreNearBelow}
use Rattle.search_task.specs.Questions.{ground_of}
use Rattle.nearest_answer.proofs.near_leaves.near_leaves.Given as goal

abbrev pub invariant-loop-wide : goal.invariant-loop-wide
invariant-loop-wide g l =
    AreNearBelow (ground_of l.fn.search) l.fn.limit (l.wide * 256) l.entries.items

abbrev pub invariant-loop-group : goal.invariant-loop-group
invariant-loop-group g l =
    AreNearBelow (ground_of l.fn.search) l.fn.limit (l.group * 16) l.entries.items
