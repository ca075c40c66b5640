use Rattle.series_core.proofs.RowsOf.{is_collection}
use Rattle.series_core.proofs.flat.FlatRows.length.Goals as goal

pub returns-clause-sound : goal.returns-clause-sound
returns-clause-sound c = rw (← c.self.view_is) (is_collection _ _ _ c.self.invariant)
