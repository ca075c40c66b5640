-- What the contracts of claims speak of.
pub use Rattle.atomic_table.specs.Seated
pub use Rattle.list_totals.specs.Totals
pub mod Rule
pub mod Passes
