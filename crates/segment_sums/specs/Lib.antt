-- The definitions of this crate that public clauses cite.
pub mod Division
pub mod Sum
