-- One record takes in those of all passes.
pub mod Gathering
