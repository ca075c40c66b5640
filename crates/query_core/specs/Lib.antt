-- A worker, and what one turn of it does.
pub mod Working
pub mod Turning
-- Portions of the leaves, and the limits that workers share for them.
pub mod Portions
pub mod BoundShares
-- What one thread holds, and why a schedule gives no outcome.
pub mod OneThread
pub mod Replays
-- What clauses of private functions alone speak of.
pub mod Walks
pub mod Teams
pub mod Fates
pub mod Merging
-- The definitions of the crates below that the public clauses cite.
pub use Rattle.search_task.specs.Questions
pub use Rattle.search_machine.specs.Ground
pub use Rattle.search_machine.specs.Machine
pub use Rattle.search_machine.specs.Outcome
pub use Rattle.search_machine.specs.Legal
pub use Rattle.search_machine.specs.OwnRecord
pub use Rattle.search_machine.specs.Calls
pub use Rattle.search_machine.specs.Replies
pub use Rattle.search_machine.specs.Schedules
pub use Rattle.series_core.specs.Collection
pub use Rattle.series_core.specs.Answer
pub use Rattle.lower_bound.specs.Bound
pub use Rattle.subtree_build.specs.Fits
pub use Rattle.subtree_build.specs.Index
pub use Rattle.subtree_build.specs.Start
