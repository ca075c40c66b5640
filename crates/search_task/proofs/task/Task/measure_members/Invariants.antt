-- The members so far were measured, and the most that a distance may be is that of the list.
use Rattle.std.proofs.Common.{take}
use Rattle.subtree_build.specs.Members.{numbers_of}
use Rattle.search_task.proofs.Meeting.{IsScanning}
use Rattle.search_task.proofs.task.Task.measure_members.Given as goal

abbrev pub invariant-loop-place : goal.invariant-loop-place
invariant-loop-place g l = IsScanning l.self l.fn.limit (numbers_of (take l.place l.fn.members)) l.fn.list.pairs l.list l.most
