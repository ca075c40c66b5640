-- The falling number keeps its rule, and the traces of all passes fit together.
pub mod TraceLaws
pub mod Sources
pub mod Opening
pub mod Stepping
pub mod Parting
pub mod Gathering
