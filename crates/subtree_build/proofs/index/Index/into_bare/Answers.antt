-- What is left of an index without its tables is bare, and is seen as before, and its members are series of the rows.
use Rattle.std.proofs.Common.{ap}
use Rattle.std.specs.Prelude.{None}
use Rattle.subtree_build.specs.Index.{IndexParts}
use Rattle.subtree_build.proofs.BareTrees.{real_members}
use Rattle.subtree_build.proofs.index.Index.into_bare.Goals as goal

pub returns-clause-bare : goal.returns-clause-bare
returns-clause-bare g c = c.self.invariant.0

pub returns-clause-few : goal.returns-clause-few
returns-clause-few g c = c.self.invariant.0.seen.few

pub returns-clause-places : goal.returns-clause-places
returns-clause-places g c = c.self.invariant.0.places

pub returns-clause-same : goal.returns-clause-same
returns-clause-same g c = ap (λ (ix : IndexParts). record ix { means = None; codes = None }) c.self.view_is

pub returns-clause-series : goal.returns-clause-series
returns-clause-series g c =
    real_members (g.R.Rows.collection c.args.rows.now) _ c.args.self (returns-clause-bare g c) (returns-clause-same g c) c.requires
