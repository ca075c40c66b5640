-- The least of the values so far.
use Rattle.std.proofs.Common.{◌≡◌, take}
use Rattle.row_codes.specs.Codes.{least}
use Rattle.row_codes.proofs.coding.least_of.Given as goal

abbrev pub invariant-loop-i : goal.invariant-loop-i
invariant-loop-i l = l.low ≡ least (take l.i l.values)
