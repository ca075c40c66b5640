-- The leaves that may have a member within a limit, a search by them on its way, the stretches that workers draw, and these workers, of
-- which clauses of private functions speak.
pub mod NearLeaves
pub mod Begun
pub mod Listed
pub mod Stretches
pub mod Team
-- The definitions of the crates below that the public clause cites.
pub use Rattle.search_task.specs.Questions
pub use Rattle.series_core.specs.Answer
pub use Rattle.subtree_build.specs.Fits
