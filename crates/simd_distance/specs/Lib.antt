-- The definitions of this crate, and the one of the crate below that its public clauses cite.
pub mod Lanes
pub mod Blocks
pub use Rattle.series_core.specs.Distance
