-- What a history of calls makes of a queue of leaves.
pub mod Histories
pub mod Callers
pub mod Rooms
pub mod Closings
-- The definitions of the crates below that the public clauses cite.
pub use Rattle.list_totals.specs.Totals
pub use Rattle.list_totals.specs.Below
pub use Rattle.list_totals.specs.Standing
pub use Rattle.turn_lock.specs.History
pub use Rattle.leaf_queues.specs.PlainQueue
pub use Rattle.search_machine.specs.Ground
pub use Rattle.search_machine.specs.Basics
pub use Rattle.search_machine.specs.Machine
pub use Rattle.search_machine.specs.Sound
pub use Rattle.search_machine.specs.OwnRecord
pub use Rattle.search_machine.specs.Closes
