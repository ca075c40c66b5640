-- The lanes of each query hold what the words so far add with its values.
use Rattle.std.proofs.Common.{map, to_z}
use mir.Syntax.{w32}
use Rattle.row_codes.specs.Lanes.{HoldSixteens}
use Rattle.row_codes.proofs.lanes.dots_of_four.Given as goal

abbrev pub invariant-loop-sixteen : goal.invariant-loop-sixteen
invariant-loop-sixteen l = record {
  a : HoldSixteens l.sixteen l.words l.a (map (to_z w32) l.to_a);
  b : HoldSixteens l.sixteen l.words l.b (map (to_z w32) l.to_b);
  c : HoldSixteens l.sixteen l.words l.c (map (to_z w32) l.to_c);
  d : HoldSixteens l.sixteen l.words l.d (map (to_z w32) l.to_d);
}
