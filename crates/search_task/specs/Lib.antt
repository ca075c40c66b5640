-- The question, and what the search for its answer stands on.
pub mod Questions
-- A list into which series are scanned, and the bound of a leaf.
pub mod Scanning
pub mod LeafBounds
-- The definitions of the crates below that the public clauses cite.
pub use Rattle.search_machine.specs.Ground
pub use Rattle.search_machine.specs.Basics
pub use Rattle.series_core.specs.Collection
pub use Rattle.series_core.specs.Answer
pub use Rattle.series_core.specs.Best
pub use Rattle.lower_bound.specs.Bound
pub use Rattle.subtree_build.specs.Fits
pub use Rattle.subtree_build.specs.Index
pub use Rattle.subtree_build.specs.Start
