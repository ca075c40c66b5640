use Rattle.std.proofs.Common.{sym}
use Rattle.series_core.proofs.RowsOf.{length-rows_of, is_collection}
use Rattle.series_core.proofs.flat.FlatRows.count.Goals as goal

pub returns-clause-count : goal.returns-clause-count
returns-clause-count c =
    rw (← c.self.view_is) (sym (length-rows_of c.self.inside.length c.self.inside.count c.self.inside.values.items))

pub returns-clause-sound : goal.returns-clause-sound
returns-clause-sound c = rw (← c.self.view_is) (is_collection _ _ _ c.self.invariant)
