use Rattle.std.proofs.Common.{rules, ap, ◌∙◌, ◌∷◌}
use Rattle.turn_lock.proofs.Endings.{Ready, ready, ready_releases, ready_called}
use Rattle.turn_lock.proofs.turns.TurnLock+O.call_at.Goals as goal

pub apply-reply-requires-clause-held : goal.apply-reply-requires-clause-held
apply-reply-requires-clause-held g c =
    let t = c.take.ensures.took in
    (t.held, ap (λ m. m.1) t.after ∙ ap (λ l. (0, t.held) ∷ l) c.requires.rests)

pub store-requires : goal.store-requires
store-requires g c =
    let d : Ready g.O.Object.next c.args.seat.now.me c.apply-reply.new.seat.me
    c.args.call c.apply-reply.result
    = ready _ _ c.take.new.seat.me _ _ _ _ c.take.ensures.took c.requires.rests
    c.requires.number c.apply-reply.ensures.view c.apply-reply.ensures.applied in
    (search rules, search rules, ready_releases _ _ _ _ _ d _ _ _ _)

pub returns-clause-called : goal.returns-clause-called
returns-clause-called g c =
    let d : Ready g.O.Object.next c.args.seat.now.me c.apply-reply.new.seat.me
    c.args.call c.apply-reply.result
    = ready _ _ c.take.new.seat.me _ _ _ _ c.take.ensures.took c.requires.rests
    c.requires.number c.apply-reply.ensures.view c.apply-reply.ensures.applied in
    ready_called _ _ _ _ _ d 0 c.store.new.seat.me c.store.ensures.2
