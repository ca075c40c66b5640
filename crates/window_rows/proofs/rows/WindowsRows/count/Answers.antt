use Rattle.window_rows.proofs.Places.{counted, is_collection}
use Rattle.window_rows.proofs.rows.WindowsRows.count.Goals as goal

pub returns-clause-count : goal.returns-clause-count
returns-clause-count c = counted _ _ _ _ c.self.view_is c.if-size-self.false

pub returns-clause-sound : goal.returns-clause-sound
returns-clause-sound c = rw (← c.self.view_is) (is_collection _ _ _ c.self.invariant)
