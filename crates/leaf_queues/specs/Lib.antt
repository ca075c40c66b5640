pub use Rattle.series_core.specs.EntryOrder
pub mod PlainQueue
pub mod Lines
pub mod Kept
