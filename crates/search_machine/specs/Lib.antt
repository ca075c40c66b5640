-- What an outcome is and when it is legal.
pub mod Ground
pub mod Measures
pub mod Basics
pub mod Legal
-- The machine: workers, their calls, what they share, schedules, and what holds in each of its states.
pub mod Workers
pub mod Calls
pub mod Shared
pub mod Machine
pub mod Outcome
pub mod Sound
pub mod Schedules
-- Workers' own records, and what closed objects say by them.
pub mod OwnRecord
pub mod Replies
pub mod Stands
pub mod Closes
-- The small searches of the worked examples.
pub mod Examples
-- What proofs alone speak of.
pub mod Straight
-- The definitions of the crates below that the public clauses cite.
pub use Rattle.list_totals.specs.Totals
pub use Rattle.list_totals.specs.Standing
pub use Rattle.series_core.specs.Collection
pub use Rattle.series_core.specs.Pairs
pub use Rattle.series_core.specs.Order
pub use Rattle.series_core.specs.Answer
pub use Rattle.leaf_queues.specs.PlainQueue
