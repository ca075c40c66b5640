-- The tree fits what it fitted before.
use Rattle.std.proofs.Common.{subst}
use Rattle.subtree_build.specs.contracts.index.Index.{the_view}
use Rattle.subtree_build.specs.BareTree.{bare_parts}
use Rattle.subtree_build.specs.Fits.{FitsByTree}
use Rattle.subtree_build.specs.Index.{IndexParts}
use Rattle.subtree_build.proofs.Fitting.{tree_alone_fits}
use Rattle.subtree_build.proofs.index.Index.without_tables.Goals as goal

pub returns-clause-fits : goal.returns-clause-fits
returns-clause-fits c =
    subst (λ (ix : IndexParts). FitsByTree ix (bare_parts c.self.inside.tree)) c.self.view_is
    (tree_alone_fits (the_view c.self.inside))
