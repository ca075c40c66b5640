-- The lemmas of this crate.
pub mod QueueSteps
pub mod Pasts
pub mod Callers
pub mod Rooms
pub mod Joins
pub mod Closings
