-- What a run read and wrote, what is known of named files, and the lines of a text.
pub mod Traffic
pub mod Named
pub mod Lines
pub use Rattle.outside.specs.Files
