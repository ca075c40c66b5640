use Rattle.std.proofs.Common.{add-one}
use Rattle.series_core.proofs.Parts.{distance_part, distance_last}
use Rattle.series_core.proofs.laws.last_law.Goals as goal

pub returns-clause-part : goal.returns-clause-part
returns-clause-part c = distance_part

pub returns-clause-farthest : goal.returns-clause-farthest
returns-clause-farthest c n whole up near p has = distance_last n whole up near p (rw add-one at has)
