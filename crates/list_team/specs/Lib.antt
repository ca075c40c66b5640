-- What a worker of a team is when it is hired, and what the lists of all workers make.
pub use Rattle.claim_word.specs.Passes
pub use Rattle.series_core.specs.Order
pub use Rattle.series_core.specs.Pairs
pub mod Searchers
