-- The stretches behind the first are filled by fewer workers.
use Rattle.std.proofs.Common.{◌+◌, ◌*◌}
use Rattle.subtree_build.proofs.means.+stretches.Given as goal

abbrev pub decreases-fill : goal.decreases-fill
decreases-fill g l = 2 * l.workers

abbrev pub decreases-back : goal.decreases-back
decreases-back g l = 2 * l.rest + 1
