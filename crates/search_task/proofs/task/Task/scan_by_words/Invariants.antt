-- The members so far were scanned, and the most that a distance may be is that of the list.
use Rattle.std.proofs.Common.{take}
use Rattle.subtree_build.specs.Members.{numbers_of}
use Rattle.search_task.proofs.Meeting.{IsScanning}
use Rattle.search_task.proofs.task.Task.scan_by_words.Given as goal

abbrev pub invariant-loop-position : goal.invariant-loop-position
invariant-loop-position g l = IsScanning l.self l.fn.limit (numbers_of (take l.position l.fn.members)) l.fn.list.pairs l.list l.most
