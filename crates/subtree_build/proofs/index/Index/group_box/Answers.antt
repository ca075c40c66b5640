-- The box at the number of the group.
use Rattle.subtree_build.proofs.Seen.{group_is, group_there}
use Rattle.subtree_build.proofs.index.Index.group_box.Goals as goal

pub index-requires : goal.index-requires
index-requires c =
    group_there c.self.inside c.self.view_is c.self.invariant.1 c.in-Some.table c.in-Some.is c.args.g c.requires

pub returns-in-Some : goal.returns-in-Some
returns-in-Some c =
    group_is c.self.inside c.self.view_is c.self.invariant.1 c.in-Some.table c.in-Some.is c.args.g c.requires _ c.index.ensures
