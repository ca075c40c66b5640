-- What a live collection is: its plain object, its histories, and what clauses say of its writer and its readers.
pub use Rattle.list_totals.specs.Standing
pub use Rattle.series_core.specs.Collection
pub use Rattle.series_core.specs.Answer
pub use Rattle.subtree_build.specs.Fits
pub use Rattle.turn_lock.specs.History
pub use Rattle.turn_lock.specs.Passes
pub mod PlainAppend
pub mod PlainLive
pub mod Kept
pub mod Histories
pub mod Sides
pub mod Steps
pub mod Numbers
