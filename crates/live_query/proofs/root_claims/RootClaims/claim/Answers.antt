-- A draw that gave no group ended the pass.
use Rattle.std.proofs.Common.{◌∙◌, ap, arith}
use Rattle.claim_word.specs.Passes.{Pass}
use Rattle.live_query.specs.RootClaims.{Drawn}
use Rattle.live_query.proofs.root_claims.RootClaims.claim.Goals as goal

pub returns-in-None-clause-did : goal.returns-in-None-clause-did
returns-in-None-clause-did c =
    let was : Drawn → Drawn = λ d. record d { pass = c.draw.new.pass } in
    let ended = c.in-None.ensures.ended in
    let count = ap (λ (r : Rattle.live_query.specs.RootClaims.Roots). r.counter.count) c.self.view_is in
    let met = ap (λ (d : Drawn). d.pass.met) c.drawing.view_is in
    let now = ap (λ (p : Pass). p.met) ended in
    let own = c.requires.met in
    record {
      none_kept = let next = ap (λ (d : Drawn). d.next) c.drawing.view_is in
          let end = ap (λ (d : Drawn). d.end) c.drawing.view_is in
          omega (arith, c.if-drawing.false);
      pass = c.draw.new.pass;
      after = ap was c.drawing.view_is;
      claims = ap (λ (p : Pass). p.claims) ended ∙ ap (λ (d : Drawn). d.pass.claims) c.drawing.view_is;
      draws = ap (λ (p : Pass). p.draws) ended ∙ ap (λ (d : Drawn). d.pass.draws) c.drawing.view_is;
      ended = ap (λ (p : Pass). p.ended) ended;
      met = (omega arith, omega arith);
    }
