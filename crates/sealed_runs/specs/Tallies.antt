-- What a tally holds, as the code keeps it: its parts are those of the visits that it took in.
use Rattle.std.specs.Prelude.{List}
use Rattle.sealed_runs.specs.declared.tally.Tally.{Tally}
use Rattle.sealed_runs.specs.Visits.{Visit}
use Rattle.sealed_runs.specs.Tallied.{IsTally}

-- the tally is of these visits
abbrev pub Tallies : List Visit → Tally → Type 0
Tallies vs t = IsTally vs t.claims.items t.reach t.refused.items t.kept
