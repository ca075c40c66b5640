-- The counter keeps its rule, and the records of all passes fit together.
pub mod Records
pub mod Adding
pub mod Parting
pub mod Gathering
pub mod Draws
