-- The definitions of this crate, and those of the crates below that its public clauses cite.
pub mod Means
pub mod MeanBound
pub mod Boxes
pub use Rattle.segment_sums.specs.Division
pub use Rattle.segment_sums.specs.Sum
pub use Rattle.series_core.specs.Distance
