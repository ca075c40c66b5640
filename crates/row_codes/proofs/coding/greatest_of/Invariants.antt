-- The greatest of the values so far.
use Rattle.std.proofs.Common.{◌≡◌, take}
use Rattle.row_codes.specs.Codes.{greatest}
use Rattle.row_codes.proofs.coding.greatest_of.Given as goal

abbrev pub invariant-loop-i : goal.invariant-loop-i
invariant-loop-i l = l.high ≡ greatest (take l.i l.values)
