-- The box at the number of the wide group.
use Rattle.subtree_build.proofs.Seen.{wide_group_is, wide_group_there}
use Rattle.subtree_build.proofs.index.Index.wide_group_box.Goals as goal

pub index-requires : goal.index-requires
index-requires c =
    wide_group_there c.self.inside c.self.view_is c.self.invariant.1 c.in-Some.table c.in-Some.is c.args.g c.requires

pub returns-in-Some : goal.returns-in-Some
returns-in-Some c =
    wide_group_is c.self.inside c.self.view_is c.self.invariant.1 c.in-Some.table c.in-Some.is c.args.g c.requires _ c.index.ensures
