-- The definitions of this crate, and those of the crates below that its public clauses cite.
pub mod Tree
pub mod Grown
pub mod Members
pub mod Splitting
pub mod NextBits
pub mod Division
pub mod Outline
pub mod Index
pub mod Means
pub mod Fits
pub mod Start
pub mod Parts
pub mod Places
pub mod Summaries
pub mod Splicing
pub mod Building
pub mod Assembly
pub mod BareTree
pub mod Frame
pub use Rattle.breakpoints.specs.Breakpoint
pub use Rattle.segment_sums.specs.Division as CutDivision
pub use Rattle.segment_sums.specs.Sum
pub use Rattle.isax_word.specs.Symbol
pub use Rattle.isax_word.specs.FullWord
pub use Rattle.isax_word.specs.Word
pub use Rattle.lower_bound.specs.Gap
pub use Rattle.lower_bound.specs.Bound
pub use Rattle.mean_bound.specs.Means as RowMeans
pub use Rattle.row_codes.specs.Rows as RowCodes
pub use Rattle.series_core.specs.Collection
pub use Rattle.series_core.specs.Distance
pub use Rattle.summary_phase.specs.Members as SeriesMembers
pub use Rattle.summary_phase.specs.Roots
