-- The shift leaves the quotient, which is below 16.
use Rattle.std.proofs.Common.{refl, ◌∙◌}
use Rattle.row_codes.proofs.Masks.{shifted_are, highest_are}
use Rattle.row_codes.proofs.lanes.fourth.Goals as goal

pub returns : goal.returns
returns c = shifted_are _ 12 4096 (λ w. refl) c.args.words c.fits-words.0 ∙ highest_are c.args.words c.fits-words.1
