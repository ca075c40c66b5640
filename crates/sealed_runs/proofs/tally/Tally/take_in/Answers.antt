use Rattle.std.proofs.Common.{◌≡◌, ◌++◌, ◌∷◌, [], max, ap, ◌∙◌, arith}
use Rattle.claim_word.specs.Passes.{Pass}
use Rattle.sealed_runs.specs.Visits.{Visit}
use Rattle.sealed_runs.specs.Closed.{lesser}
use Rattle.sealed_runs.specs.Tallied.{with_place}
use Rattle.sealed_runs.proofs.Tallying.{tally_push}
use Rattle.sealed_runs.proofs.tally.Tally.take_in.Goals as goal

pub returns-clause-tally : goal.returns-clause-tally
returns-clause-tally c vs t =
    let was = c.args.self.now in
    let v = c.args.visit in
    let seen = c.visit.view_is in
    let claim = ap (λ (w : Visit). w.claim) seen in
    let met = ap (λ (p : Pass). p.met) claim in
    let reach : c.max-self.result ≡ max was.reach v.claim.met =
    omega (arith, c.max-self.ensures, c.visit.invariant.0, met) in
    tally_push vs v was.claims.items _ was.reach _ was.refused.items _ was.kept _
    (c.push_reserved.ensures.items ∙ ap (λ (p : Pass). was.claims.items ++ p ∷ []) claim)
    reach
    (c.push_place.ensures.items ∙ ap (λ (w : Visit). with_place was.refused.items w.refused) seen)
    (c.lesser_limit-self.ensures ∙ ap (λ (w : Visit). lesser was.kept w.closed) seen)
    t
