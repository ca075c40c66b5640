-- Laws of totals and of what stands in a list.
pub mod Totals
pub mod Greatest
pub mod Standing
pub mod Places
pub mod Below
pub mod Pigeons
pub mod Splitting
