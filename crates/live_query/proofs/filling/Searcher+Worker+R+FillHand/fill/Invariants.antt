-- What holds before each turn of the fill part.
use Rattle.live_query.specs.Knowing.{FillServes, FillKnows, FillsOn}
use Rattle.live_query.specs.Efforts.{fill_left}
use Rattle.live_query.proofs.filling.Searcher+Worker+R+FillHand.fill.Given as goal

abbrev pub invariant-loop-self : goal.invariant-loop-self
invariant-loop-self g l = record {
  serves : FillServes l.self.worker l.self.hand;
  knows : FillKnows l.self.worker l.self.hand;
  goes_on : FillsOn l.fn.self.worker l.fn.self.hand l.self.worker l.self.hand;
}

-- each turn leaves less to do
abbrev pub decreases-loop-self : goal.decreases-loop-self
decreases-loop-self g l = fill_left l.self.worker l.self.hand
