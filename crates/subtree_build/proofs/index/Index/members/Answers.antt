-- The row of all members is that of all leaves.
use Rattle.std.proofs.Common.{◌∙◌, ap, sym}
use Rattle.std.specs.Prelude.{flat_map}
use Rattle.subtree_build.specs.declared.leaf.TreeLeaf.{TreeLeaf}
use Rattle.subtree_build.specs.Index.{IndexParts}
use Rattle.subtree_build.proofs.InRow.{members_seen}
use Rattle.subtree_build.proofs.index.Index.members.Goals as goal

pub returns : goal.returns
returns c =
    let x = c.self.inside.tree in
    c.deref.ensures.value
    ∙ sym (members_seen x.members.items x.leaves.items c.self.invariant.0.seen)
    ∙ ap (λ (ix : IndexParts). flat_map (λ (y : TreeLeaf). y.members) ix.leaves) c.self.view_is
