-- What holds before each turn of the drain part.
use Rattle.live_query.specs.Knowing.{LockedOn}
use Rattle.live_query.specs.Parts.{MayDrain}
use Rattle.live_query.specs.LockedQueues.{pass_count}
use Rattle.live_query.proofs.locking.Searcher+Worker+R+DrainHand+LockedQueues+W.drain.Given as goal

abbrev pub invariant-loop : goal.invariant-loop
invariant-loop g l = record {
  can_next : (goal.iterator-loop g).can_next l.iterator';
  is_finite : (goal.iterator-loop g).is_finite l.iterator';
  ready : MayDrain pass_count l.self;
  goes_on : LockedOn l.fn.self.worker l.fn.self.hand l.self.worker l.self.hand;
}
