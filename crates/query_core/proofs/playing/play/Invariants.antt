use Rattle.std.proofs.Common.{◌≡◌, take}
use Rattle.search_machine.specs.Machine.{played}
use Rattle.query_core.specs.Replays.{NamesWorkers}
use Rattle.query_core.specs.Teams.{StandsAt, searched}
use Rattle.query_core.proofs.playing.play.Given as goal

abbrev pub invariant-loop-at : goal.invariant-loop-at
invariant-loop-at g l = record {
  same : searched l.team ≡ searched l.fn.team;
  names : NamesWorkers (searched l.fn.team) l.schedule l.at;
  stands : StandsAt l.team (played (searched l.fn.team) (take l.at l.schedule));
}
