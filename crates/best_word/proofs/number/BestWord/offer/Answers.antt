use Rattle.std.proofs.Common.{◌≤◌, refl, sym, ap, ◌∙◌, arith}
use mathlib.Core.Option.{none}
use Rattle.atomic_table.specs.Table.{step}
use Rattle.best_word.specs.Passes.{Pass, Best}
use Rattle.best_word.proofs.Stepping.{OnePass, offers}
use Rattle.best_word.proofs.number.BestWord.offer.Goals as goal

pub fetch_min-found-requires : goal.fetch_min-found-requires
fetch_min-found-requires c =
    let mine = ap (λ (p : Pass). p.best) c.pass.view_is ∙ c.requires.own ∙ sym c.self.view_is in
    let key_start = ap (λ t. t.start) c.self.invariant.0 in
    let start = ap (λ (b : Best). b.start) mine ∙ sym key_start in
    let terms = c.self.inside.table.shared.key in
    let one : OnePass terms c.pass.inside.seat.me.0 =
    record { start = start; part = c.pass.invariant.1.part } in
    let floor = ap (λ (p : Pass). p.floor) c.pass.view_is in
    let above : c.pass.inside.seat.me.0.floor ≤ c.args.value =
    omega (arith, c.requires.floor, floor) in
    let at = step c.self.inside.table.shared.table_id.slots 0 c.args.value 0 none in
    let allowed = offers _ _ _ c.args.value _ at refl c.pass.invariant.0 one above in
    (ap (λ (b : Best). b.table) mine, omega arith, allowed)
