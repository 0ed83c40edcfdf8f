pub mod Bounded
pub mod Sites
