use Rattle.std.proofs.Common.{◌≡◌, ℕ, ltb, false, sym, ap, ◌∙◌, arith}
use Rattle.std.proofs.lemmas.Bool.Decides.{nat_tests}
use Rattle.claim_word.specs.Passes.{Pass, Claim}
use Rattle.claim_word.proofs.Adding.{draws_as}
use Rattle.claim_word.proofs.drawing.Claims.draw.Goals as goal

-- a pass that has not ended has ended no time
not_ended : (n : ℕ) → ltb 0 n ≡ false → n ≡ 0
not_ended n e = grind (arith, nat_tests)

pub fetch_add-n-requires : goal.fetch_add-n-requires
fetch_add-n-requires c =
    let mine = ap (λ (p : Pass). p.claims) c.pass.view_is ∙ c.requires.own ∙ sym c.self.view_is in
    let count = ap (λ (k : Claim). k.count) mine ∙ sym (ap (λ t. t.count) c.self.invariant.0) in
    let going = not_ended _ (ap (λ (p : Pass). p.ended) c.pass.view_is ∙ c.requires.goes_on) in
    let allowed = draws_as _ _ _ _ _ c.pass.invariant.0 count c.pass.invariant.1 going in
    (ap (λ (k : Claim). k.table) mine, omega arith, allowed)
