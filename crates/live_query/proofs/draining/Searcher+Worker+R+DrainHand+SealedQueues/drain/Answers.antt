-- A turn keeps what holds before each turn and leaves less to do, and the last one leaves the worker done.
use Rattle.std.proofs.Common.{rules}
use Rattle.live_query.proofs.DrainEffort.{drain_less}
use Rattle.live_query.proofs.DrainKnowing.{drain_stays, goes_on, ready_on}
use Rattle.live_query.proofs.SealedTies.{sealed_laws}
use Rattle.live_query.proofs.draining.Searcher+Worker+R+DrainHand+SealedQueues.drain.Goals as goal

pub loop-init : goal.loop-init
loop-init g c = record { ready = c.requires.ready; goes_on = drain_stays sealed_laws _ _ }

pub returns-then-eq-clause-goes_on : goal.returns-then-eq-clause-goes_on
returns-then-eq-clause-goes_on g c =
    let was = c.loop.invariant in
    let turn = c.take_turn.ensures in
    goes_on sealed_laws c.loop.self c.take_turn.new.self was.ready turn.place turn.turns _ _ was.goes_on

pub loop-preserved : goal.loop-preserved
loop-preserved g c =
    let was = c.loop.invariant in
    let turn = c.take_turn.ensures in
    record {
      ready = ready_on sealed_laws c.loop.self c.take_turn.new.self was.ready turn.place turn.turns (search rules);
      goes_on = goes_on sealed_laws c.loop.self c.take_turn.new.self was.ready turn.place turn.turns _ _ was.goes_on;
    }

pub loop-smaller : goal.loop-smaller
loop-smaller g c = drain_less c.loop.self c.take_turn.new.self c.loop.invariant.ready c.take_turn.ensures.place c.take_turn.ensures.turns
