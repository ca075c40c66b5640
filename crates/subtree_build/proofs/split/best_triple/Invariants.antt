-- The least triple of the segments so far.
use Rattle.subtree_build.proofs.Splits.{IsBestSoFar}
use Rattle.subtree_build.proofs.split.best_triple.Given as goal

abbrev pub invariant-loop-j : goal.invariant-loop-j
invariant-loop-j l = IsBestSoFar l.word l.members l.j l.best
