-- What a command line is, from the spelling of a number to the settings that words have, and the
-- definitions of the crates below that the public clauses cite.
pub mod Number
pub mod Argument
pub mod CommandName
pub mod Options
pub mod Settings
pub mod Limits
pub mod Absence
pub use Rattle.clap.specs.Words
