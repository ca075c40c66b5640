-- With tables it is the same tree, and fits.
use Rattle.std.proofs.Common.{ℕ, ◌∙◌, sym, ap, refl, subst, List}
use Rattle.std.specs.Prelude.{IsSome, Some, map}
use Rattle.series_core.specs.Collection.{Collection}
use Rattle.isax_word.specs.declared.layout.Layout.{Layout}
use Rattle.subtree_build.specs.declared.leaf.TreeLeaf.{TreeLeaf}
use Rattle.subtree_build.specs.declared.node.Node.{Node}
use Rattle.subtree_build.specs.Assembly.{HasMeansOf}
use Rattle.subtree_build.specs.Fits.{IsTreeOf}
use Rattle.subtree_build.specs.Index.{IndexParts}
use Rattle.subtree_build.specs.Means.{leaf_means, leaf_codes}
use Rattle.subtree_build.specs.Outline.{outline}
use Rattle.subtree_build.proofs.Fitting.{tree_fits}
use Rattle.subtree_build.proofs.index.Index.of_tree.Goals as goal

-- the same tree with means is the tree of the same rows
tree_with : (c : Collection) (layout : Layout) (size : ℕ) (before after : IndexParts) → IsTreeOf c layout size before
    → HasMeansOf c layout before after → IsTreeOf c layout size after
tree_with c layout size before after is has = record {
  segments = has.segments ∙ is.segments;
  roots = has.roots ∙ is.roots;
  nodes = ap (λ (ns : List Node). map outline ns) has.nodes ∙ is.nodes;
  leaves = has.leaves ∙ is.leaves;
}

pub returns-clause-tree : goal.returns-clause-tree
returns-clause-tree g c =
    tree_with (g.R.Rows.collection c.args.rows.now) c.args.settings.now.layout c.args.settings.now.leaf_size _ _
    c.requires.tree c.of_bare.ensures

pub returns-clause-fits : goal.returns-clause-fits
returns-clause-fits g c =
    let rows = g.R.Rows.collection c.args.rows.now in
    let layout = c.args.settings.now.layout in
    let has = c.of_bare.ensures in
    tree_fits rows layout c.args.settings.now.leaf_size _ c.segments-segments.ensures.divides
    (tree_with rows layout c.args.settings.now.leaf_size _ _ c.requires.tree has)
    (has.own_means ∙ ap (λ (ls : List TreeLeaf). Some (map (leaf_means rows layout) ls)) (sym has.leaves))
    (has.own_codes ∙ ap (λ (ls : List TreeLeaf). Some (map (leaf_codes rows) ls)) (sym has.leaves))

pub returns-clause-tables : goal.returns-clause-tables
returns-clause-tables g c =
    let has = c.of_bare.ensures in
    record { means = subst IsSome (sym has.own_means) refl; codes = subst IsSome (sym has.own_codes) refl }
