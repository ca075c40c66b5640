-- What a certificate is, what it has to say, and the definitions of the crates below that the public clauses cite.
pub mod Spelling
pub mod Grammar
pub mod Fields
pub mod LineForms
pub mod Reading
pub mod Refusals
pub mod Verdict
pub mod Missing
pub mod Printed
pub mod Certified
pub use Rattle.series_core.specs.Collection
pub use Rattle.series_core.specs.Answer
pub use Rattle.lower_bound.specs.Bound
