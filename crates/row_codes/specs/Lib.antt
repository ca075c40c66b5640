-- The definitions of this crate, and those of the crates below that its public clauses cite.
pub mod Roots
pub mod Codes
pub mod Rows
pub mod Bound
pub mod Lanes
pub mod Kept
pub use Rattle.series_core.specs.Distance
