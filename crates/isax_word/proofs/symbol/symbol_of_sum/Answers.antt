-- The symbol of the mean is that of the sum.
use Rattle.std.proofs.Common.{rules, ◌∙◌, sym, ap}
use Rattle.std.specs.Prelude.{FitsSigned}
use Rattle.std.proofs.lemmas.Int.{to_z-of_z}
use mir.Syntax.{w16, w32}
use Rattle.breakpoints.specs.declared.table.Table.TheVariants.{Bent}
use Rattle.isax_word.specs.Symbol.{mean_of, symbol_of}
use Rattle.isax_word.proofs.Means.{symbol_of_mean}
use Rattle.isax_word.proofs.symbol.symbol_of_sum.Goals as goal

pub returns-in-Bent : goal.returns-in-Bent
returns-in-Bent c =
    let l = c.args.length in
    let s = c.args.sum in
    let fits : FitsSigned w16 c.mean_of.result = search rules in
    c.bent_symbol.ensures
    ∙ ap (symbol_of Bent 1)
    (to_z-of_z w16 c.mean_of.result fits ∙ c.mean_of.ensures ∙ ap (mean_of l) (to_z-of_z w32 s c.ranges.sum))
    ∙ symbol_of_mean Bent l s c.requires.some_values c.requires.not_low
    ∙ ap (λ t. symbol_of t l s) (sym c.in-Bent.is)
