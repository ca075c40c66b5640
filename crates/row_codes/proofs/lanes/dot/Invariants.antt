-- The lanes hold what the words so far add.
use Rattle.std.proofs.Common.{map, to_z}
use mir.Syntax.{w32}
use Rattle.row_codes.specs.Lanes.{HoldSixteens}
use Rattle.row_codes.proofs.lanes.dot.Given as goal

abbrev pub invariant-loop-sixteen : goal.invariant-loop-sixteen
invariant-loop-sixteen l = HoldSixteens l.sixteen l.words l.query (map (to_z w32) l.sums)
