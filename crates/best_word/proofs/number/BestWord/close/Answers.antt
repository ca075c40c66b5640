-- One record was joined from those of all passes.
use Rattle.std.proofs.Common.{◌≡◌, length, ap, subst, arith}
use Rattle.best_word.specs.Passes.{Best, together}
use Rattle.best_word.proofs.Parting.{joins}
use Rattle.best_word.proofs.Gathering.{KnowsAll, back_of}
use Rattle.best_word.proofs.number.BestWord.close.Goals as goal

pub close-requires-clause-joins : goal.close-requires-clause-joins
close-requires-clause-joins c id v other w one = joins _ id v other w one.part

pub returns : goal.returns
returns c =
    let every : length c.args.passes.items ≡ c.self.inside.callers =
    omega (arith, c.args.passes.ok.0, c.requires.all, ap (λ (b : Best). b.callers) c.self.view_is) in
    let told = subst (λ (b : Best). KnowsAll b.start c.close.result (together c.args.passes.items)) c.self.view_is
    (back_of c.self.inside.table.shared.key _ c.self.inside.start _ _ _ c.self.invariant every c.close.ensures) in
    record { least = told.least; replies = told.replies; crossed = told.crossed }
