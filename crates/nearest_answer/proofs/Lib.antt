-- The lemmas of this crate.
pub mod Fitting
pub mod Nearest
mod LeavesNear
mod LeavesLeft
mod Ranges
mod StretchLeaves
mod ItemsScanned
mod TeamLists
mod ListedLeaves
mod Drawing
pub mod Hiring
pub mod FullWords
