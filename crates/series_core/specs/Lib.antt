-- What a search speaks of, from one series to a whole answer.
pub use Rattle.list_totals.specs.Standing
pub mod Collection
pub mod Distance
pub mod Pairs
pub mod Order
pub mod Answer
pub mod Flat
pub mod Best
pub mod EntryOrder
