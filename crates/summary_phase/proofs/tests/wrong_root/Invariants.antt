use Rattle.std.proofs.Common.{◌≡◌, length}
use Rattle.summary_phase.proofs.tests.wrong_root.Given as goal

abbrev pub invariant-loop-root : goal.invariant-loop-root
invariant-loop-root l = length l.buffers ≡ 4
