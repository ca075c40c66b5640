-- The nearest so far is a leaf.
use Rattle.std.proofs.Common.{◌<◌, IfSome, length}
use Rattle.nearest_answer.proofs.first_leaf.nearest_of.Given as goal

abbrev pub invariant-loop-leaf : goal.invariant-loop-leaf
invariant-loop-leaf g l = IfSome l.nearest (λ x. x < length l.search.index.leaves)
