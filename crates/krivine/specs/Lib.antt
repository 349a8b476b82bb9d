pub mod Types
pub mod Standing
