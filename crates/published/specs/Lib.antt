pub mod Figure
pub mod Represents
