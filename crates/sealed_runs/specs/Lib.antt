-- What the contracts of sealed runs speak of.
pub use Rattle.claim_word.specs.Passes
pub use Rattle.list_totals.specs.Totals
pub use Rattle.list_totals.specs.Standing
pub use Rattle.series_core.specs.EntryOrder
pub mod Entries
pub mod Visits
pub mod Popped
pub mod Closed
pub mod Tallied
pub mod Tallies
pub mod Sealing
