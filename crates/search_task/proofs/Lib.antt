-- The lemmas of this crate.
pub mod Homes
pub mod BelowRoots
pub mod StartLeaf
pub mod OfIndex
pub mod Grounds
pub mod Searching
pub mod Openings
pub mod Meeting
pub mod StartScan
pub mod BelowMeans
pub mod CodeRows
