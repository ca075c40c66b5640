-- The range of a root child's leaves is that of its node.
use Rattle.std.proofs.Common.{◌<◌, length, refl, subst}
use Rattle.subtree_build.specs.contracts.index.Index.{the_view}
use Rattle.subtree_build.specs.BareTree.{bare_parts}
use Rattle.subtree_build.specs.Index.{IndexParts}
use Rattle.subtree_build.specs.Places.{IsRange}
use Rattle.subtree_build.specs.Start.{node_at}
use Rattle.subtree_build.proofs.Assembled.{other_means}
use Rattle.subtree_build.proofs.Placed.{root_range}
use Rattle.subtree_build.proofs.index.Index.root_leaves.Goals as goal

pub returns : goal.returns
returns c =
    let x = c.self.inside in
    let kept = c.self.invariant.0 in
    let P : IndexParts → Type 0 = λ ix. c.args.i < length ix.roots
    → IsRange (length ix.leaves) c.index.result.now c.index-2.result.now (node_at ix c.args.i) in
    (subst P c.self.view_is
    (λ inside. root_range (the_view x) x.tree.firsts.items x.tree.leaves.items x.tree.members.items
    c.args.i c.index.result.now c.index-2.result.now
    (other_means (bare_parts x.tree) (the_view x).means (the_view x).codes kept.is_index)
    kept.ranges refl inside c.index.ensures c.index-2.ensures))
    c.requires
