-- The next bit is a power of two, and the number lies below it.
use Rattle.std.proofs.Common.{◌≡◌, ◌<◌, ◌^◌}
use Rattle.nearest_answer.proofs.first_leaf.own_number.Given as goal

abbrev pub invariant-loop-segment : goal.invariant-loop-segment
invariant-loop-segment l = record { bit : l.bit ≡ 2 ^ l._segment; below : l.number < l.bit }
