-- The laws that the proofs of the conversions cite.
pub mod Steps
