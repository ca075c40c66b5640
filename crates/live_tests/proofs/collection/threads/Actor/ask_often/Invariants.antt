-- The reader stays one of the collection.
use Rattle.live_collection.specs.Sides.{IsReaderOf}
use Rattle.live_tests.proofs.collection.threads.Actor.ask_often.Given as goal

abbrev pub invariant-loop-ask : goal.invariant-loop-ask
invariant-loop-ask g l = IsReaderOf l.self.live.now l.own
