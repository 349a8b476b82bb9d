-- The codes lose nothing; what a refusal gives back; what top shows; what a look foretells; and the third demand for a host.
pub mod Codes
pub mod Refusals
pub mod Top
pub mod Foretold
pub mod HostDemand
