-- The row of all codes is that of all leaves.
use Rattle.subtree_build.proofs.Seen.{codes_are}
use Rattle.subtree_build.proofs.index.Index.codes.Goals as goal

pub returns-in-Some : goal.returns-in-Some
returns-in-Some c =
    codes_are c.self.inside c.self.view_is c.self.invariant.0 c.self.invariant.1 c.in-Some.table c.in-Some.is _ c.deref.ensures.value
