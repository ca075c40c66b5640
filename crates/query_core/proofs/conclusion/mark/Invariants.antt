use Rattle.std.proofs.Common.{take}
use Rattle.query_core.specs.Fates.{AreMarked, leaf_of}
use Rattle.query_core.proofs.conclusion.mark.Given as goal

abbrev pub invariant-loop-entry : goal.invariant-loop-entry
invariant-loop-entry l = AreMarked (leaf_of l.start) l.queue (take l.entry-index l.taken) l.fn.fates l.fates
