-- The lemmas of this crate.
pub mod Counts
pub mod PaddedLists
pub mod Scaled
pub mod Symbols
pub mod Means
pub mod FullWords
pub mod Roots
pub mod Words
pub mod SideBySide
