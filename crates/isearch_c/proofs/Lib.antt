-- The lemmas of this crate.
pub mod Entering
pub mod PieceValues
pub mod HandleValues
pub mod Sends
pub mod SlotSends
pub mod Filling
pub mod Fitting
