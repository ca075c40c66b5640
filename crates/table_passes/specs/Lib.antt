-- What is known when all passes to a table are back.
pub use Rattle.atomic_table.specs.Table
pub use Rattle.atomic_table.specs.Seated
pub mod AllBack
