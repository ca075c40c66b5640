-- Windows of one long series, and pairs chosen apart from each other.
pub mod Windows
pub mod Choice
pub use Rattle.series_core.specs.Collection
pub use Rattle.series_core.specs.Pairs
pub use Rattle.series_core.specs.Answer
