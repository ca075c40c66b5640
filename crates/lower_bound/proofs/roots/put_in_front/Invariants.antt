-- The numbers so far have a bit in front.
use Rattle.lower_bound.specs.Halves.{view_with}
use Rattle.lower_bound.proofs.HalfBounds.{InFront}
use Rattle.lower_bound.proofs.roots.put_in_front.Given as goal

abbrev pub invariant-loop-x : goal.invariant-loop-x
invariant-loop-x l = InFront (view_with l.layout l.sums) l.j l.count l.x l.bounds
