-- What discords are, and the definitions of the crates below that the public clauses cite.
pub use Rattle.series_core.specs.Collection
pub use Rattle.subtree_build.specs.Fits
pub mod Discords
pub mod Searches
pub mod Groups
pub mod Done
