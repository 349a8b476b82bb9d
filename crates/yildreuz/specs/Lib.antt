pub mod Given
pub mod TopTold
pub mod Texts
