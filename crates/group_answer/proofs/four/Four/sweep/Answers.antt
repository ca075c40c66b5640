-- Queries are swept only where the index has codes.
use Rattle.std.proofs.Common.{List, ap, sym, ◌∙◌}
use Rattle.std.specs.Prelude.{Option, flat_map, option_copied}
use Rattle.std.specs.Borrow.{Bor}
use Rattle.row_codes.specs.Rows.{Block}
use Rattle.group_answer.proofs.Sweeps.{none_there}
use Rattle.group_answer.proofs.four.Four.sweep.Goals as goal

pub returns-in-None : goal.returns-in-None
returns-in-None g c =
    none_there (flat_map (λ (cs : List Block). cs)) c.args.asked.now.index.now.codes
    (ap (λ (o : Option (Bor (List Block))). option_copied o) (sym c.in-None.is) ∙ c.codes.ensures) c.requires.swept.first.chosen.coded

pub sweep_codes-requires-clause-codes : goal.sweep_codes-requires-clause-codes
sweep_codes-requires-clause-codes g c =
    ap (λ (o : Option (Bor (List Block))). option_copied o) (sym c.in-Some.is) ∙ c.codes.ensures
