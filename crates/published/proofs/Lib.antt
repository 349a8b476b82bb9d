-- The plain machine of document 01 and the published machine of document 003 make the same runs.
pub mod Contexts
pub mod Binder
pub mod Found
pub mod Positions
pub mod Logs
pub mod Backward
pub mod Steps
pub mod Moves
pub mod Next
pub mod OneState
pub mod Published
pub mod Example
pub mod Stands
pub mod Relative
