-- The writer stays one of the collection.
use Rattle.live_collection.specs.Sides.{IsWriterOf}
use Rattle.live_tests.proofs.collection.threads.Actor.append_all.Given as goal

abbrev pub invariant-loop-batch : goal.invariant-loop-batch
invariant-loop-batch g l = IsWriterOf l.self.live.now l.own
