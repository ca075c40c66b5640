-- Several queries and their answers, and queries as they are swept.
pub mod Asking
pub mod Sweeping
-- The definitions of the crates below that the public clauses cite.
pub use Rattle.series_core.specs.Answer
pub use Rattle.series_core.specs.Collection
pub use Rattle.subtree_build.specs.Fits
pub use Rattle.search_task.specs.Questions
