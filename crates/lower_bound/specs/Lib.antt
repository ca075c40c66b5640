-- The definitions of this crate, and those of the crates below that its public clauses cite.
pub mod Gap
pub mod Bound
pub mod Halves
pub use Rattle.breakpoints.specs.Breakpoint
pub use Rattle.segment_sums.specs.Division
pub use Rattle.segment_sums.specs.Sum
pub use Rattle.isax_word.specs.Symbol
pub use Rattle.isax_word.specs.FullWord
pub use Rattle.isax_word.specs.Word
pub use Rattle.series_core.specs.Distance
