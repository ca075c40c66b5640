-- The lemmas of this crate.
pub mod Squares
pub mod Lanes
pub mod OfSegments
pub mod BelowDistances
pub mod Boxes
