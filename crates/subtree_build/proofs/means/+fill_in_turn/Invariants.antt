-- Each half has fewer members.
use Rattle.std.proofs.Common.{length}
use Rattle.subtree_build.proofs.means.+fill_in_turn.Given as goal

abbrev pub decreases-fill_in_turn : goal.decreases-fill_in_turn
decreases-fill_in_turn g l = length l.members.now
