-- A turn keeps what holds before each turn, and the last one leaves the worker done.
use Rattle.std.proofs.Common.{rules}
use Rattle.live_query.proofs.DrainKnowing.{drain_stays, goes_on, ready_on}
use Rattle.live_query.proofs.LockTies.{locked_laws}
use Rattle.live_query.proofs.locking.Searcher+Worker+R+DrainHand+LockedQueues+W.drain.Goals as goal

pub loop-init : goal.loop-init
loop-init g c = record { can_next = tt; is_finite = tt; ready = c.requires.ready; goes_on = drain_stays locked_laws _ _ }

pub returns-then-eq-clause-goes_on : goal.returns-then-eq-clause-goes_on
returns-then-eq-clause-goes_on g c =
    let was = c.loop.invariant in
    let turn = c.take_turn.ensures in
    goes_on locked_laws c.loop.self c.take_turn.new.self was.ready turn.place turn.turns _ _ was.goes_on

pub loop-preserved : goal.loop-preserved
loop-preserved g c =
    let was = c.loop.invariant in
    let turn = c.take_turn.ensures in
    record {
      can_next = tt;
      is_finite = tt;
      ready = ready_on locked_laws c.loop.self c.take_turn.new.self was.ready turn.place turn.turns (search rules);
      goes_on = goes_on locked_laws c.loop.self c.take_turn.new.self was.ready turn.place turn.turns _ _ was.goes_on;
    }
