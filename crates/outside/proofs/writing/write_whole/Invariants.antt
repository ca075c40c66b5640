use Rattle.std.proofs.Common.{◌-◌, length}
use Rattle.outside.proofs.writing.write_whole.Given as goal
use Rattle.outside.proofs.Progress.{Progress}

abbrev pub invariant-loop-done : goal.invariant-loop-done
invariant-loop-done g l =
    Progress g.S.Sink.written g.S.Sink.faults g.S.Sink.sure l.fn.sink l.sink l.bytes l.done

abbrev pub decreases-loop-done : goal.decreases-loop-done
decreases-loop-done g l = length l.initial.bytes - l.done
