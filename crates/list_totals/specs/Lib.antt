-- Totals over lists, sums over numbers, and what stands in a list.
pub mod Totals
pub mod Below
pub mod Standing
