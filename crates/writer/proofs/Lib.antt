-- The laws that the proofs of the writer's functions cite.
pub mod Types
pub mod KindWords
pub mod Putting
pub mod Parts
pub mod PartList
pub mod NumberParts
pub mod NodesPut
pub mod Whole
