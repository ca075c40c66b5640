pub mod Histories
pub mod Frames
pub mod Comings
pub mod Steps
pub mod Endings
pub mod Passes
