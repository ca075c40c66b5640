use Rattle.std.proofs.Common.{rules, ap, sym, subst}
use Rattle.atomic_table.specs.Table.{Splits}
use Rattle.turn_lock.specs.Rule.{Kept, dealt, newcomer}
use Rattle.turn_lock.specs.Passes.{opening_of, callers_of}
use Rattle.turn_lock.proofs.Comings.{deals}
use Rattle.turn_lock.proofs.dealing.TurnLock+O.deal.Goals as goal

pub split_seat-seat-requires : goal.split_seat-seat-requires
split_seat-seat-requires g c =
    let is = ap (λ m. m.0) c.requires.next in
    let lock = c.args.self.now in
    let id = c.args.dealing.now.id in (
      c.requires.lock,
      search rules,
      subst (λ v. Splits (Kept g.O.Object.next (opening_of lock) (callers_of lock)) id
          v (dealt v) (newcomer v)) (sym is) (deals _ _ _ _ _ c.requires.below),
    )
