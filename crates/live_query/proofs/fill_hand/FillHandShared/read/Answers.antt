-- The read stands in the trace of the hand's pass.
use Rattle.live_query.proofs.FillTies.{fill_grew}
use Rattle.live_query.proofs.WordTies.{grew_by}
use Rattle.live_query.proofs.fill_hand.FillHandShared.read.Goals as goal

pub returns-clause-did : goal.returns-clause-did
returns-clause-did c =
    fill_grew _ _ _ c.read.new.pass c.self.view_is
    (grew_by c.self.inside.word.now c.self.inside.seen c.read.new.pass _ c.self.invariant.1 c.read.ensures.trace c.read.ensures.legal)
