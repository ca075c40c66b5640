use Rattle.std.proofs.Common.{length}
use Rattle.certificate.specs.Reading.{reading_of}
use Rattle.certificate.proofs.Walks.{Walk}
use Rattle.certificate.proofs.text.read.Given as goal

abbrev pub invariant-loop-rest : goal.invariant-loop-rest
invariant-loop-rest l = Walk l.segments l.labelled l.bytes l.rest l.count (reading_of l.reader)

abbrev pub decreases-loop-rest : goal.decreases-loop-rest
decreases-loop-rest l = length l.rest
