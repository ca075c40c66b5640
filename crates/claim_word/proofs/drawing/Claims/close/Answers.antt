-- One record was joined from those of all passes.
use Rattle.std.proofs.Common.{◌≡◌, length, ap, subst, arith}
use Rattle.claim_word.specs.Passes.{Claim, EachDrawnOnce}
use Rattle.claim_word.proofs.Parting.{joins}
use Rattle.claim_word.proofs.Gathering.{back_of}
use Rattle.claim_word.proofs.drawing.Claims.close.Goals as goal

pub close-requires-clause-joins : goal.close-requires-clause-joins
close-requires-clause-joins c id v other w one = joins _ id v other w

pub returns : goal.returns
returns c =
    let every : length c.args.passes.items ≡ c.self.inside.callers =
    omega (arith, c.args.passes.ok.0, c.requires.all, ap (λ (k : Claim). k.callers) c.self.view_is) in
    subst (λ (k : Claim). EachDrawnOnce k.count c.args.passes.items) c.self.view_is
    (back_of c.self.inside.table.shared.key _ c.self.inside.count _ _ _ c.self.invariant every c.close.ensures)
