pub mod Blocks
pub mod Following
pub mod Links
pub mod Ownership
