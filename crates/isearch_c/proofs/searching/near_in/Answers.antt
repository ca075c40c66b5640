-- The index fits.
use Rattle.nearest_answer.proofs.Fitting.{Fits-had}
use Rattle.isearch_c.proofs.searching.near_in.Goals as goal

pub within_alone-requires-clause-fits : goal.within_alone-requires-clause-fits
within_alone-requires-clause-fits c =
    let kept = c.args.searchable.now in Fits-had kept.rows kept.settings.layout kept.index kept.fits
