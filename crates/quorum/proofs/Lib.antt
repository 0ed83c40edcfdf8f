pub mod Listed
pub mod Stepped
