-- The offer stands in the trace of the hand's pass.
use Rattle.live_query.proofs.FillTies.{fill_grew}
use Rattle.live_query.proofs.WordTies.{grew_by}
use Rattle.live_query.proofs.fill_hand.FillHandShared.offer.Goals as goal

pub returns-clause-did : goal.returns-clause-did
returns-clause-did c =
    fill_grew _ _ _ c.offer.new.pass c.self.view_is
    (grew_by c.self.inside.word.now c.self.inside.seen c.offer.new.pass _ c.self.invariant.1 c.offer.ensures.trace c.offer.ensures.legal)
