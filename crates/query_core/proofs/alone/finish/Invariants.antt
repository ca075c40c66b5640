use Rattle.std.proofs.Common.{◌≡◌}
use Rattle.std.specs.Prelude.{replicate}
use Rattle.search_machine.specs.Machine.{played}
use Rattle.query_core.specs.Teams.{StandsAt, searched}
use Rattle.query_core.proofs.alone.finish.Given as goal

abbrev pub invariant-loop-turns : goal.invariant-loop-turns
invariant-loop-turns g l = record {
  same : searched l.team ≡ searched l.fn.team;
  stands : StandsAt l.team (played (searched l.fn.team) (replicate l._turns 0));
}
