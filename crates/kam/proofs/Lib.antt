-- What holds of Krivine's machine on an accepted table; first it is held to examples worked out by hand.
pub mod Example
pub mod Scope
pub mod Chains
pub mod Tied
pub mod Lies
pub mod Halting
pub mod Numbers
pub mod Ends
pub mod Full
pub mod Unread
pub mod ByRows
