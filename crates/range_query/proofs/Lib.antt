-- What a search within a radius finds is what the collection has within it.
pub mod Cutting
pub mod Scanning
pub mod Groups
pub mod Drawing
pub mod Ordering
pub mod Together
