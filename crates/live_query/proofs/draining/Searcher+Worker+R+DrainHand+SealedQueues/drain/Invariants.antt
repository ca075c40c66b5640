-- What holds before each turn of the drain part.
use Rattle.live_query.specs.Knowing.{SealedOn}
use Rattle.live_query.specs.Parts.{MayDrain}
use Rattle.live_query.specs.SealedQueues.{run_count}
use Rattle.live_query.specs.Efforts.{drain_left}
use Rattle.live_query.proofs.draining.Searcher+Worker+R+DrainHand+SealedQueues.drain.Given as goal

abbrev pub invariant-loop : goal.invariant-loop
invariant-loop g l = record {
  ready : MayDrain run_count l.self;
  goes_on : SealedOn l.fn.self.worker l.fn.self.hand l.self.worker l.self.hand;
}

-- each turn leaves less to do
abbrev pub decreases-loop : goal.decreases-loop
decreases-loop g l = drain_left l.self.worker l.self.hand
