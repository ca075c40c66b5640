-- The lemmas of this crate.
mod Sweeps
