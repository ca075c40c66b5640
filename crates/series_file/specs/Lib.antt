-- How series files are spelled, and what is wrong with those that are not.
pub mod Items
pub mod Format
pub mod Faults
pub mod Header
pub mod Stages
pub mod Reading
pub mod Body
pub mod Laws
pub use Rattle.series_core.specs.Collection
pub use Rattle.series_core.specs.Flat
