use Rattle.std.proofs.Common.{◌≡◌, false}
use Rattle.summary_phase.proofs.tests.skip.Given as goal

abbrev pub invariant-loop-chunk : goal.invariant-loop-chunk
invariant-loop-chunk l = (l.pass.claims ≡ l.claims) × (l.pass.ended ≡ false)
