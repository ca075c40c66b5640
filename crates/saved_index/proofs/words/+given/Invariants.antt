-- The members behind the first stretch get their words by fewer workers.
use Rattle.std.proofs.Common.{◌+◌, ◌*◌}
use Rattle.saved_index.proofs.words.+given.Given as goal

abbrev pub decreases-give_words : goal.decreases-give_words
decreases-give_words g l = 2 * l.workers

abbrev pub decreases-back : goal.decreases-back
decreases-back g l = 2 * l.rest + 1
