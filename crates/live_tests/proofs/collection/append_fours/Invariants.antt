-- The writer stays one of the collection.
use Rattle.live_collection.specs.Sides.{IsWriterOf}
use Rattle.live_tests.proofs.collection.append_fours.Given as goal

abbrev pub invariant-loop-time : goal.invariant-loop-time
invariant-loop-time g l = IsWriterOf l.live l.writer
