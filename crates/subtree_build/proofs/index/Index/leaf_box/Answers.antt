-- The box at the number of the leaf.
use Rattle.subtree_build.proofs.Seen.{leaf_box_is}
use Rattle.subtree_build.proofs.index.Index.leaf_box.Goals as goal

pub returns-in-Some : goal.returns-in-Some
returns-in-Some c =
    leaf_box_is c.self.inside c.self.view_is c.self.invariant.1 c.in-Some.table c.in-Some.is c.args.l c.requires _ c.index.ensures
