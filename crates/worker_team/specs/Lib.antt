-- What the contracts of teams and of rows speak of, and what a team did.
pub use Rattle.claim_word.specs.Passes
pub mod Places
pub mod Deeds
