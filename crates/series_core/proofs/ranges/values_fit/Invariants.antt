use Rattle.std.proofs.Common.{take}
use Rattle.std.specs.Prelude.{FitsSigned}
use Rattle.std.specs.List.{All}
use mir.Syntax.{w16}
use Rattle.series_core.proofs.ranges.values_fit.Given as goal

abbrev pub invariant-loop-i : goal.invariant-loop-i
invariant-loop-i l = All (FitsSigned w16) (take l.i l.values)
