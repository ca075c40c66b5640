-- There are as many places as pairs.
use Rattle.std.proofs.Common.{Some, refl}
use Rattle.window_rows.specs.Windows.{collection_of}
use Rattle.isearch_c.proofs.Filling.{found_fill}
use Rattle.isearch_c.proofs.windows.isearch_windows.Goals as goal

pub write-requires-clause-distances : goal.write-requires-clause-distances
write-requires-clause-distances c =
    (found_fill (record { k = c.args.k; apart = Some c.args.apart }) (collection_of c.args.series.now c.args.settings.now.length 1) _ _
    c.args.queries.now _ _ _ _ c.if-not-places_fit.ensures refl c.in-Ok.ensures c.deref.ensures.value).0

pub write-requires-clause-numbers : goal.write-requires-clause-numbers
write-requires-clause-numbers c =
    (found_fill (record { k = c.args.k; apart = Some c.args.apart }) (collection_of c.args.series.now c.args.settings.now.length 1) _ _
    c.args.queries.now _ _ _ _ c.if-not-places_fit.ensures refl c.in-Ok.ensures c.deref.ensures.value).1
