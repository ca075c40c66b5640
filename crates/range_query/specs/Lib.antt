-- What a search within a radius finds, and the definitions of the crates below that its public clauses cite.
pub use Rattle.series_core.specs.Collection
pub use Rattle.series_core.specs.Answer
pub use Rattle.subtree_build.specs.Fits
pub mod Near
pub mod Searches
pub mod Done
