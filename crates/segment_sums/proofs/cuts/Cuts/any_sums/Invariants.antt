-- The sums of the segments so far, then zeros; and each of these sums is within its bounds.
use Rattle.segment_sums.proofs.Sums.{SumsTo}
use Rattle.segment_sums.proofs.cuts.Cuts.any_sums.Given as goal

abbrev pub invariant-loop-j : goal.invariant-loop-j
invariant-loop-j l = SumsTo l.self l.row 16 l.j l.into
