pub mod Numbers
pub mod Told
pub mod Foretold
pub mod HostDemand
