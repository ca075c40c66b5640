-- The shift leaves the quotient, and the mask its remainder.
use Rattle.std.proofs.Common.{refl}
use Rattle.row_codes.proofs.Masks.{shifted_low_are}
use Rattle.row_codes.proofs.lanes.third.Goals as goal

pub returns : goal.returns
returns c = shifted_low_are _ 8 256 (λ w. refl) c.args.words c.fits-words.0
