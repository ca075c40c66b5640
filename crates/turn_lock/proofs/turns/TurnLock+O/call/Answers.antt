use Rattle.std.proofs.Common.{◌≡◌, ap, sym, subst, ◌∙◌, ◌∷◌, ◌++◌, []}
use Rattle.turn_lock.specs.History.{entry, calls_by, EndsWith}
use Rattle.turn_lock.proofs.Endings.{called_ends, called_own, called_legal}
use Rattle.turn_lock.proofs.turns.TurnLock+O.call.Goals as goal

pub invariant_of-pass : goal.invariant_of-pass
invariant_of-pass g c = record { rests = ap (λ m. m.1) c.call_at.ensures.called.after }

pub returns-clause-pass : goal.returns-clause-pass
returns-clause-pass g c =
    let d = c.call_at.ensures.called in (
      c.call_at.ensures.lock ∙ c.requires.0,
      ap (λ m. m.0.opening) d.after ∙ (sym d.opens ∙ c.requires.1),
      ap (λ m. m.0.role) d.after,
      ap (λ m. m.0.number) d.after ∙ c.requires.3,
    )

pub returns-clause-made : goal.returns-clause-made
returns-clause-made g c =
    ap (λ m. m.0.mine) c.call_at.ensures.called.after
    ∙ ap (λ n. c.args.pass.now.seat.me.0.mine ++ entry n c.args.call c.call_at.result ∷ [])
    c.requires.3

pub returns-clause-seen : goal.returns-clause-seen
returns-clause-seen g c =
    subst (λ n. EndsWith c.args.pass.now.seat.me.0.seen (entry n c.args.call c.call_at.result)
    c.call_at.new.seat.me.0.seen) c.requires.3
    (called_ends _ _ _ _ c.call_at.ensures.called)

pub returns-clause-legal : goal.returns-clause-legal
returns-clause-legal g c = called_legal _ _ _ _ c.call_at.ensures.called _ c.requires.1

pub returns-clause-own : goal.returns-clause-own
returns-clause-own g c =
    subst (λ n. calls_by n c.call_at.new.seat.me.0.seen ≡ c.call_at.new.seat.me.0.mine)
    c.requires.3 (called_own _ _ _ _ c.call_at.ensures.called)
