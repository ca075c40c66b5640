-- The words of the leaves so far contain the full words of their members.
use Rattle.saved_index.specs.Membership.{AreContainedBetween}
use Rattle.saved_index.proofs.fitting.contained_in_turn.Given as goal

abbrev pub invariant-loop-l : goal.invariant-loop-l
invariant-loop-l l = AreContainedBetween l.index.leaves l.from l.l
