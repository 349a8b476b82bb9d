-- The laws that the proofs of the functions cite.
pub mod Types
pub mod Climb
pub mod Going
