-- Pops keep what a visit is, and the visits of all passes say what a closed run is.
pub mod Members
pub mod Handing
pub mod Popping
pub mod Taking
pub mod Limits
pub mod Lines
pub mod Tallying
pub mod Columns
pub mod Passing
pub mod Alike
pub mod Closing
pub mod Ordering
