-- The definitions of this crate, and those of the crates below that its public clauses cite.
pub mod Padded
pub mod Symbol
pub mod FullWord
pub mod Word
pub use Rattle.breakpoints.specs.Breakpoint
pub use Rattle.segment_sums.specs.Division
pub use Rattle.segment_sums.specs.Sum
