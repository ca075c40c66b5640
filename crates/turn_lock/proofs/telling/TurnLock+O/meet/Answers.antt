use Rattle.std.proofs.Common.{rules}
use Rattle.turn_lock.proofs.Comings.{tells}
use Rattle.turn_lock.proofs.telling.TurnLock+O.meet.Goals as goal

pub split_seat-note-requires : goal.split_seat-note-requires
split_seat-note-requires g c =
    (search rules, search rules, tells _ _ _ _ _ c.requires.0.2)
