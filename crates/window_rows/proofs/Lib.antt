pub mod Places
pub mod Ranking
pub mod Shutting
pub mod Numbers
pub mod Enough
