pub mod Scanning
pub mod Types
pub mod Token
pub mod Grammar
pub mod Layout
pub mod Answering
pub mod Steps
pub mod Numbers
