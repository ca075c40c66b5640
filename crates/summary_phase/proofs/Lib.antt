-- How chunks and roots divide the members of a collection.
pub mod Members
pub mod Roots
pub mod Pieces
pub mod Putting
pub mod Joined
