-- The lemmas of this crate.
pub mod Walks
pub mod Differences
pub mod Squares
pub mod NearLists
pub mod Halves
