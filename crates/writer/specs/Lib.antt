pub mod Types
pub mod Putting
pub mod NumberParts
