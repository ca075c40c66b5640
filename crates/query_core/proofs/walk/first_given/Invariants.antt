-- Where the leaves at the front are skipped, what remains of those from the next leaf on is what remains of all.
use Rattle.std.proofs.Common.{◌≡◌, ◌≤◌}
use Rattle.search_machine.specs.Ground.{Ground}
use Rattle.search_machine.specs.Workers.{skip, without}
use Rattle.search_task.specs.Questions.{leaf_bound}
use Rattle.query_core.specs.Walks.{leaves_between}
use Rattle.query_core.proofs.walk.first_given.Given as goal

abbrev pub invariant-loop-leaf : goal.invariant-loop-leaf
invariant-loop-leaf l =
    (l.fn.leaves.start ≤ l.leaf)
    × ((g : Ground) → g.bound ≡ leaf_bound l.view l.index
    → skip g l.limit (without l.start (leaves_between l.fn.leaves.start l.fn.leaves.end))
    ≡ skip g l.limit (without l.start (leaves_between l.leaf l.fn.leaves.end)))
