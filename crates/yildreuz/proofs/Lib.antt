-- The laws behind the winding calls, behind a look and behind top, beside the functions' own proofs.
pub mod Given
pub mod Spots
pub mod LookTold
pub mod TopTold
