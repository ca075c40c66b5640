-- Random walks, and the definitions of the crates below that the public clauses cite.
pub mod Walks
pub use Rattle.series_core.specs.Collection
pub use Rattle.rand_xoshiro.specs.SplitMix64
