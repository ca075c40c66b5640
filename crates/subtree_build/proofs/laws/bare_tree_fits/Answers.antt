-- Where there are no tables, nothing is asked of them.
use Rattle.subtree_build.proofs.Fitting.{bare_fits}
use Rattle.subtree_build.proofs.laws.bare_tree_fits.Goals as goal

pub returns : goal.returns
returns c = λ col layout ix means codes. (λ fits. fits.tree, λ tree. bare_fits col layout ix tree means codes)
