-- The offer stands in the trace of the hand's pass.
use Rattle.live_query.proofs.DrainTies.{drain_grew}
use Rattle.live_query.proofs.WordTies.{grew_by}
use Rattle.live_query.proofs.drain_hand.DrainHandShared.offer.Goals as goal

pub returns-clause-did : goal.returns-clause-did
returns-clause-did g c =
    drain_grew _ _ _ c.offer.new.pass c.self.view_is
    (grew_by c.self.inside.word.now c.self.inside.seen c.offer.new.pass _ c.self.invariant c.offer.ensures.trace c.offer.ensures.legal)
