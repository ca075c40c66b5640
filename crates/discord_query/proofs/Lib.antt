pub mod Others
pub mod Farness
pub mod Joining
pub mod Grouping
pub mod Weighing
pub mod Together
