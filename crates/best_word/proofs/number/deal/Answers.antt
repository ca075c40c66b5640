use Rattle.std.proofs.Common.{ℕ, ap, ◌∙◌, arith}
use Rattle.atomic_table.specs.Table.{Me}
use Rattle.best_word.specs.declared.rule.View.{View}
use Rattle.best_word.proofs.Opening.{opens}
use Rattle.best_word.proofs.Parting.{parts_off}
use Rattle.best_word.proofs.number.deal.Goals as goal

pub load-requires : goal.load-requires
load-requires g c =
    let first = c.requires.first in
    let v = ap (λ (m : Me ℕ View). m.0) first in
    let all = ap (λ (u : View). u.parts) v ∙ c.requires.counts.1 in
    let none = ap (λ (u : View). u.trace) v in
    let counts = c.requires.counts.0 in (
      c.requires.own,
      omega arith,
      opens _ _ _ _ _ _ (ap (λ m. m.1) first) all none
          (omega (arith, c.requires.told, c.requires.floor)),
    )

pub split_seat-seat-requires : goal.split_seat-seat-requires
split_seat-seat-requires g c =
    let inv = c.loop-made.invariant in
    let v = ap (λ (m : Me ℕ View). m.0) inv.1 in
    let parts = ap (λ (u : View). u.parts) v in
    let trace = ap (λ (u : View). u.trace) v in
    let counts = c.requires.counts.0 in
    (inv.0, omega arith, parts_off _ _ _ (omega arith) trace)
