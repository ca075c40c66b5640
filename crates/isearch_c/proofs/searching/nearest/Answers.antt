-- There are as many places as pairs, and the index fits.
use Rattle.std.proofs.Common.{◌/◌, length, ap, None, refl}
use Rattle.nearest_answer.proofs.Fitting.{Fits-had}
use Rattle.isearch_c.proofs.Filling.{found_fill}
use Rattle.isearch_c.proofs.searching.nearest.Goals as goal

pub nearest_to_all-requires-clause-indexed : goal.nearest_to_all-requires-clause-indexed
nearest_to_all-requires-clause-indexed c =
    let kept = c.args.searchable.now in
    record { fits = Fits-had kept.rows kept.settings.layout kept.index kept.fits; length = kept.points }

pub returns-in-Ok-clause-places : goal.returns-in-Ok-clause-places
returns-in-Ok-clause-places c =
    let count = ap (λ n. length c.args.queries.now / n) c.length-length.ensures.length in
    found_fill (record { k = c.args.k; apart = None }) c.args.searchable.now.rows _ _ c.args.queries.now _ _ _ _
    c.if-not-places_fit.ensures count c.in-Ok.ensures refl
