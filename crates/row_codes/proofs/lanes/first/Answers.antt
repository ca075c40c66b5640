-- The mask leaves the remainder.
use Rattle.row_codes.proofs.Masks.{low_are}
use Rattle.row_codes.proofs.lanes.first.Goals as goal

pub returns : goal.returns
returns c = low_are c.args.words c.fits-words.0
