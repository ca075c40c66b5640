-- Each call of the two has fewer places before it.
use Rattle.std.proofs.Common.{◌+◌, ◌*◌, length}
use Rattle.worker_team.proofs.row.+threads.Given as goal

abbrev pub decreases-each_from : goal.decreases-each_from
decreases-each_from g l = 3 * length l.row.now

abbrev pub decreases-one_and_others : goal.decreases-one_and_others
decreases-one_and_others g l = 3 * length l.others.now + 2

abbrev pub decreases-one_and_others-rest : goal.decreases-one_and_others-rest
decreases-one_and_others-rest g l = 3 * length l.others.now + 1
