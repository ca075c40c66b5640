use Rattle.window_rows.proofs.Places.{is_collection}
use Rattle.window_rows.proofs.rows.WindowsRows.length.Goals as goal

pub returns-clause-sound : goal.returns-clause-sound
returns-clause-sound c = rw (← c.self.view_is) (is_collection _ _ _ c.self.invariant)
