use Rattle.std.proofs.Common.{rules, ap, subst, ◌∙◌}
use Rattle.turn_lock.specs.Rule.{Learnt}
use Rattle.turn_lock.proofs.Comings.{hears}
use Rattle.turn_lock.proofs.Steps.{learns}
use Rattle.turn_lock.proofs.telling.TurnLock+O.hear.Goals as goal

pub join_seat-requires : goal.join_seat-requires
join_seat-requires g c = (
  c.requires.lock,
  c.requires.note_lock,
  c.requires.note.1,
  search rules,
  hears _ _ _ _ _ _ _ c.requires.idle c.requires.note.0,
)

pub load-requires : goal.load-requires
load-requires g c = (
  search rules,
  search rules,
  learns _ _ _ _ _ _
      (ap (λ m. m.0.role) c.join_seat.ensures.2 ∙ c.requires.idle),
)

pub returns-clause-learnt : goal.returns-clause-learnt
returns-clause-learnt g c =
    subst (λ m. Learnt g.O.Object.next m c.load.new.seat.me) c.join_seat.ensures.2 c.load.ensures.2
