-- How a run of a script ends, what it writes, and what it tells.
pub mod Status
pub mod Texts
pub mod Loads
pub mod Groups
pub mod Replies
pub mod Dialogues
pub mod Ends
pub use Rattle.series_core.specs.Collection
pub use Rattle.series_core.specs.Answer
pub use Rattle.series_file.specs.Format
pub use Rattle.series_file.specs.Faults
pub use Rattle.live_script.specs.Grammar
pub use Rattle.run_traffic.specs.Traffic
pub use Rattle.run_traffic.specs.Named
pub use Rattle.run_traffic.specs.Lines
