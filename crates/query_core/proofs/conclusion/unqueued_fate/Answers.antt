use Rattle.std.proofs.Common.{length, subst, sym, ◌<◌}
use Rattle.subtree_build.specs.Index.{IndexParts}
use Rattle.query_core.proofs.conclusion.unqueued_fate.Goals as goal

pub first_to_scan-requires-clause-leaf : goal.first_to_scan-requires-clause-leaf
first_to_scan-requires-clause-leaf g c = λ i w at.
    subst (λ (ix : IndexParts). c.args.leaf < length ix.leaves) (sym (c.requires.ended.over i w at).1) c.requires.leaf
