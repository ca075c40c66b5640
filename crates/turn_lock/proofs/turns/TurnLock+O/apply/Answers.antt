use Rattle.std.proofs.Common.{◌≡◌, [], ◌∷◌, ap, sym, ◌∙◌}
use Rattle.atomic_table.specs.Table.{rest}
use Rattle.turn_lock.proofs.turns.TurnLock+O.apply.Goals as goal

pub slot_mut-held-requires : goal.slot_mut-held-requires
slot_mut-held-requires g c =
    let t = c.requires.held in
    (c.requires.lock, (t.0, t.1 ∙ ap (λ l. (0, t.0) ∷ rest l) (sym t.1)))

pub returns-clause-applied : goal.returns-clause-applied
returns-clause-applied g c =
    let t = c.requires.held in
    let none-left : rest c.args.seat.now.me.1 ≡ [] = ap rest t.1 in
    let held = c.slot_mut-held.result.now in
    let last = c.apply_once.ensures.last in record {
      old = held;
      new = c.apply_once.new.held;
      last = last.0;
      held_old = c.slot_mut-held.ensures.value ∙ ap (λ l. (0, held) ∷ l) none-left;
      held_new = ap (λ l. (0, c.apply_once.new.held) ∷ l) none-left;
      named = last.1;
      call_is = last.2;
      reply_is = last.3;
      did = c.apply_once.ensures.next;
    }
