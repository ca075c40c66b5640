-- The root children that workers claim.
pub mod RootClaims
-- What the hands of running workers hold, and what each call did to them.
pub mod WordPasses
pub mod FillHands
pub mod DrainHands
pub mod SealedQueues
pub mod LockedQueues
-- What a worker and its hand know together, and how much is left for them to do.
pub mod Knowing
pub mod Efforts
-- The limits of portions that the workers share.
pub mod PortionRows
-- What the fill part leaves, the runs that are sealed, and what the drain part makes of them.
pub mod Resting
pub mod Holding
pub mod Marked
pub mod Parts
pub mod LockParts
pub mod FilledQueues
-- A searcher that takes another hand.
pub mod Searchers
-- The definitions of the crates below that the public clauses cite.
pub use Rattle.search_machine.specs.Closes
pub use Rattle.search_machine.specs.Legal
pub use Rattle.series_core.specs.Answer
pub use Rattle.subtree_build.specs.Fits
pub use Rattle.search_task.specs.Questions
