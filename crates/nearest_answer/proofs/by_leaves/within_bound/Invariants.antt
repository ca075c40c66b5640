-- The entries so far that are within the limit were kept.
use Rattle.std.proofs.Common.{◌≡◌, take}
use Rattle.nearest_answer.specs.NearLeaves.{within_bound}
use Rattle.nearest_answer.proofs.by_leaves.within_bound.Given as goal

abbrev pub invariant-loop-entry : goal.invariant-loop-entry
invariant-loop-entry l = l.within.items ≡ within_bound l.fn.limit (take l.entry-index l.entries)
