-- The definitions of this crate.
pub mod Saved
pub mod Reading
pub mod Fields
pub mod IndexText
pub mod Faults
pub mod Laws
pub mod Parsed
pub mod Loading
pub mod Membership
pub mod Words
pub mod Framing
