-- With the means of the rows it is the same tree.
use Rattle.subtree_build.proofs.BareTrees.{same_means}
use Rattle.subtree_build.proofs.index.Index.with_means_alone.Goals as goal

pub returns : goal.returns
returns g c = same_means _ _ c.into_bare-bare.result c.args.self _ c.into_bare-bare.ensures.same c.of_bare.ensures
