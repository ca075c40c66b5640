use Rattle.std.proofs.Common.{◌<◌, ◌^◌, length}
use Rattle.query_core.specs.Teams.{AreDoneTo}
use Rattle.query_core.proofs.team.Team.first_busy.Given as goal

abbrev pub invariant-loop-i : goal.invariant-loop-i
invariant-loop-i g l = record {
  few : length l.worker-items < 2 ^ 32;
  done : AreDoneTo l.worker-items l.i;
}
