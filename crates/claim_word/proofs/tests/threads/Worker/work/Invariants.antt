use Rattle.std.proofs.Common.{◌≡◌, ◌-◌, false}
use Rattle.claim_word.proofs.tests.threads.Worker.work.Given as goal

abbrev pub invariant-loop-self : goal.invariant-loop-self
invariant-loop-self l = (l.self.pass.claims ≡ l.claims) × (l.self.pass.ended ≡ false)

-- each draw leaves fewer numbers undrawn
abbrev pub decreases-loop-self : goal.decreases-loop-self
decreases-loop-self l = l.claims.count - l.self.pass.met
