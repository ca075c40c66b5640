pub mod Appending
pub mod Named
pub mod Ranked
mod Pushing
