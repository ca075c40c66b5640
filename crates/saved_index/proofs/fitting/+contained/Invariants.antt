-- The leaves behind the first stretch are gone through by fewer workers.
use Rattle.std.proofs.Common.{◌+◌, ◌*◌}
use Rattle.saved_index.proofs.fitting.+contained.Given as goal

abbrev pub decreases-contained_side_by_side : goal.decreases-contained_side_by_side
decreases-contained_side_by_side g l = 2 * l.workers

abbrev pub decreases-back : goal.decreases-back
decreases-back g l = 2 * l.rest + 1
