-- With nothing beside it the tree that was built fits.
use Rattle.std.proofs.Common.{refl}
use Rattle.subtree_build.specs.BareTree.{bare_parts}
use Rattle.subtree_build.proofs.Fitting.{built_alone_fits}
use Rattle.subtree_build.proofs.index.Index.of_tree_alone.Goals as goal

pub returns-clause-fits : goal.returns-clause-fits
returns-clause-fits g c =
    let settings = c.args.settings.now in
    built_alone_fits (g.R.Rows.collection c.args.rows.now) settings.layout settings.leaf_size (bare_parts c.args.bare)
    c.segments-segments.ensures.divides c.requires.tree refl refl
