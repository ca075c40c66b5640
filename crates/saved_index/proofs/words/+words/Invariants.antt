-- Fewer lists stand behind the first.
use Rattle.std.proofs.Common.{◌+◌, ◌*◌}
use Rattle.saved_index.proofs.words.+words.Given as goal

abbrev pub decreases-word_lists : goal.decreases-word_lists
decreases-word_lists g l = 2 * l.behind

abbrev pub decreases-back : goal.decreases-back
decreases-back g l = 2 * l.fewer + 1
