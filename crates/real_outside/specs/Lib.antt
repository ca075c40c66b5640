-- What a refusal of the system is for a program.
pub mod Refusals
