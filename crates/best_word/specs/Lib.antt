-- What the contracts of the best-so-far speak of.
pub use Rattle.atomic_table.specs.Seated
pub mod Traces
pub mod Rule
pub mod Passes
