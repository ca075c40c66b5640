use Rattle.std.proofs.Common.{sym, ap, ◌∙◌, arith}
use mathlib.Core.Option.{none}
use Rattle.atomic_table.specs.Table.{step}
use Rattle.best_word.specs.Passes.{Pass, Best}
use Rattle.best_word.proofs.Stepping.{OnePass, reads}
use Rattle.best_word.proofs.number.BestWord.read.Goals as goal

pub load-found-requires : goal.load-found-requires
load-found-requires c =
    let mine = ap (λ (p : Pass). p.best) c.pass.view_is ∙ c.requires ∙ sym c.self.view_is in
    let key_start = ap (λ t. t.start) c.self.invariant.0 in
    let start = ap (λ (b : Best). b.start) mine ∙ sym key_start in
    let terms = c.self.inside.table.shared.key in
    let one : OnePass terms c.pass.inside.seat.me.0 =
    record { start = start; part = c.pass.invariant.1.part } in
    let at = step c.self.inside.table.shared.table_id.slots 0 0 0 none in
    (ap (λ (b : Best). b.table) mine, omega arith, reads _ _ _ _ at c.pass.invariant.0 one)
