-- The lemmas of this crate.
pub mod Filled
pub mod Places
pub mod Sums
