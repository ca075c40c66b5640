-- The claim was made of the hand's draws.
use Rattle.std.proofs.Common.{ap, subst}
use Rattle.live_query.specs.RootClaims.{DidClaim}
use Rattle.live_query.specs.FillHands.{FillKept}
use Rattle.live_query.proofs.fill_hand.FillHandShared.claim.Goals as goal

pub returns-clause-did : goal.returns-clause-did
returns-clause-did c =
    let was : FillKept → FillKept = λ h. record h { drawn = c.claim.new.drawing } in (
      c.claim.new.drawing,
      subst (λ (h : FillKept). DidClaim h.roots h.drawn c.claim.result c.claim.new.drawing) c.self.view_is c.claim.ensures.did,
      ap was c.self.view_is,
    )
