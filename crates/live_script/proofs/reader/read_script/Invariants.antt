use Rattle.std.proofs.Common.{length}
use Rattle.live_script.proofs.Walks.{Walk}
use Rattle.live_script.proofs.reader.read_script.Given as goal

abbrev pub invariant-loop-rest : goal.invariant-loop-rest
invariant-loop-rest l = Walk l.bytes l.rest l.at l.script

abbrev pub decreases-loop-rest : goal.decreases-loop-rest
decreases-loop-rest l = length l.rest
