-- The bounds are those of the numbers of the last segments so far.
use Rattle.std.proofs.Common.{◌+◌, ◌-◌}
use Rattle.lower_bound.specs.Halves.{view_with, HoldsBounds}
use Rattle.lower_bound.proofs.roots.bounds_of_bits.Given as goal

abbrev pub invariant-loop-behind : goal.invariant-loop-behind
invariant-loop-behind l =
    HoldsBounds (view_with l.layout l.sums) (l.first + l.count - l.behind) l.behind l.bounds
