-- The members of a collection, and how chunks and roots divide them.
pub use Rattle.series_core.specs.Collection
pub use Rattle.isax_word.specs.FullWord
pub use Rattle.claim_word.specs.Passes
pub mod Members
pub mod Chunks
pub mod Roots
