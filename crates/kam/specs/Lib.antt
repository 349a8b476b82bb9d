pub mod Krivine
pub mod Records
pub mod Runs
pub mod Lies
pub mod ByRows
