pub mod Growing
pub mod Takings
pub mod Holding
pub mod Counting
pub mod LastCalls
mod Called
pub mod PartsSoFar
pub mod Dealing
pub mod Endings
pub mod Sends
