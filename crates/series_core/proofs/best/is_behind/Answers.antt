use Rattle.std.proofs.Common.{arith, ◌∙◌, ◌<◌, sym}
use Rattle.std.proofs.lemmas.Bool.{not-true}
use Rattle.series_core.proofs.Joining.{behind_end}
use Rattle.series_core.proofs.best.is_behind.Goals as goal

pub returns-else-end-eq0-clause-yes : goal.returns-else-end-eq0-clause-yes
returns-else-end-eq0-clause-yes c e =
    let some : 0 < c.args.end = omega arith in
    behind_end c.args.p c.args.pairs.now c.args.end _ some c.requires.bound c.requires.ordered
    (sym c.is_before.ensures ∙ not-true c.is_before.result e)
