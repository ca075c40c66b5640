-- The lemmas of this crate.
pub mod Gaps
pub mod Distances
pub mod Views
pub mod Bounds
pub mod HalfBounds
pub mod Nearest
