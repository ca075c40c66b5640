-- What the exports speak of, and the definitions of the crates below that their clauses cite.
pub use Rattle.series_core.specs.Collection
pub use Rattle.series_core.specs.Answer
pub use Rattle.series_core.specs.Flat as FlatRows
pub use Rattle.subtree_build.specs.Fits
pub use Rattle.saved_index.specs.Saved
pub use Rattle.saved_index.specs.IndexText
pub use Rattle.saved_index.specs.Faults as IndexFaults
pub use Rattle.saved_index.specs.Loading
pub use Rattle.window_rows.specs.Choice
pub mod Statuses
pub mod Handles
pub mod Kept
pub mod Faults
pub mod Found
pub mod Asking
pub mod Texts
