use Rattle.std.proofs.Common.{ℕ, ap, arith}
use Rattle.atomic_table.specs.Table.{Me}
use Rattle.claim_word.specs.declared.rule.View.{View}
use Rattle.claim_word.proofs.Parting.{parts_off}
use Rattle.claim_word.proofs.drawing.Claims.begin.Goals as goal

pub split_seat-seat-requires : goal.split_seat-seat-requires
split_seat-seat-requires c =
    let inv = c.loop-made.invariant in
    let v = ap (λ (m : Me ℕ View). m.0) inv.1 in
    let parts = ap (λ (u : View). u.parts) v in
    let draws = ap (λ (u : View). u.draws) v in
    let ends = ap (λ (u : View). u.ends) v in
    (inv.0, omega (arith, c.in_ok-table.ensures.0), parts_off _ _ _ (omega arith) draws ends)
