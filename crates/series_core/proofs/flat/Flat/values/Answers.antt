use Rattle.std.proofs.Common.{sym, ◌∙◌}
use Rattle.series_core.proofs.RowsOf.{joined-rows_of}
use Rattle.series_core.proofs.flat.Flat.values.Goals as goal

pub returns : goal.returns
returns c = rw (← c.self.view_is) (c.deref.ensures.value ∙ sym (joined-rows_of _ _ _ c.self.invariant.size))
