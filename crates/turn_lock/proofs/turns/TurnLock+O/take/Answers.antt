use Rattle.std.proofs.Common.{rules, subst}
use Rattle.turn_lock.specs.Rule.{Took}
use Rattle.turn_lock.proofs.Steps.{takes_turn}
use Rattle.turn_lock.proofs.turns.TurnLock+O.take.Goals as goal

pub compare_exchange-found-requires : goal.compare_exchange-found-requires
compare_exchange-found-requires g c =
    (search rules, search rules, takes_turn _ _ _ _ _ _ _ (search rules) (search rules))

pub returns-then-found-eq0-clause-took : goal.returns-then-found-eq0-clause-took
returns-then-found-eq0-clause-took g c =
    subst (λ m. Took g.O.Object.next m c.compare_exchange-found.new.seat.me)
    c.loop.invariant.same_view
    (c.compare_exchange-found.ensures.2.0 c.if-found-eq0.true)
