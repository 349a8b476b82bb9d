pub mod Entries
pub mod Machine
pub mod Rule
pub mod Carried
pub mod Turns
pub mod Good
pub mod Slice
pub mod Span
