-- The theorems of decimal numbers, and the laws that the proof of `put` cites.
pub mod Decimal
pub mod Putting
